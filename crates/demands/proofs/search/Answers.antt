-- The claims hold of every report that the promise of `analyze` allows.
use Rattle.demands.proofs.Searches.{search_claims}
use Rattle.demands.proofs.search.Goals as goal

pub returns : goal.returns
returns c =
    search_claims c.args.memory c.args.game c.args.config c.args.words.now c.analyze.result
    c.analyze.new.words c.analyze.ensures
