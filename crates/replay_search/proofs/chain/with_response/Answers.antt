-- One of the two tables is changed.
use mathlib.Core.Path.{sym, ◌∙◌}
use Rattle.replay_search.proofs.Chains.{with_x, with_o}
use Rattle.replay_search.proofs.chain.with_response.Goals as goal

pub returns-in-X : goal.returns-in-X
returns-in-X c = with_x c.args.state.responses _ _ _ (sym c.from_number.ensures ∙ c.in-X.is)

pub returns-in-O : goal.returns-in-O
returns-in-O c = with_o c.args.state.responses _ _ _ (sym c.from_number.ensures ∙ c.in-O.is)
