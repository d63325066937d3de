-- The words are folded into the digest, each by its bytes.
use mathlib.Core.Path.{◌∙◌}
use Rattle.std.proofs.Common.{rules}
use Rattle.std.proofs.lemmas.Iterator.{YieldsList-from_slice}
use Rattle.std.proofs.lemmas.Iterator.Consumers.{fold_from_yields_List}
use Rattle.std.specs.Int.{w64, to_le_bytes}
use Rattle.replay_search.specs.Digests.{mixed_all}
use Rattle.replay_search.proofs.Digests.{words_digest}
use Rattle.replay_search.proofs.digest.of_table.Goals as goal

pub returns : goal.returns
returns c =
    fold_from_yields_List _ (λ d w. mixed_all d (to_le_bytes w64 w)) 0xcbf29ce484222325 _ c.fold.ensures.ran
    (YieldsList-from_slice c.args.words.now cc) (λ a x b q k. search rules)
    ∙ words_digest 0xcbf29ce484222325 c.args.words.now
