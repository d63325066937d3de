-- By the kind.
use Rattle.replay_notation.proofs.RecordsKinds.{bytes_are, kind_6, kind_7, kind_8, kind_9, kind_12, kind_of_text}
use borrow.Author.Rules.{rules}
use Rattle.replay_notation.proofs.agrees.Goals as goal

pub returns-in-6 : goal.returns-in-6
returns-in-6 c =
    kind_6 c.args.words.now _ c.at.ensures _ _ c.in-6.is
    (bytes_are _ _ _ c.count_in-n.ensures.0 c.bytes_from_2-bytes.ensures) c.same_move.ensures

pub returns-in-7 : goal.returns-in-7
returns-in-7 c = kind_7 c.args.words.now _ c.at.ensures _ _ c.in-7.is c.byte_in.ensures c.same_byte.ensures

pub returns-in-8 : goal.returns-in-8
returns-in-8 c =
    kind_8 c.args.words.now _ c.at.ensures _ _ _ c.in-8.is c.byte_in-in-8.ensures c.byte_in-in-8-2.ensures c.same_merge.ensures

pub returns-in-9 : goal.returns-in-9
returns-in-9 c =
    kind_9 c.args.words.now _ c.at.ensures _ _ c.in-9.is
    (bytes_are _ _ _ c.count_in-n.ensures.0 c.bytes_from_2-bytes.ensures) c.same_play.ensures

pub returns-in-12 : goal.returns-in-12
returns-in-12 c =
    kind_12 c.args.words.now _ c.at.ensures _ _ c.in-12.is c.byte_in-in-12.ensures c.same_won.ensures

pub returns-in_default : goal.returns-in_default
returns-in_default c =
    kind_of_text c.args.words.now _ c.at.ensures _ _ (search rules) (search rules) (search rules) (search rules) (search rules)
    (bytes_are _ _ _ c.count_in-n.ensures.0 c.bytes_from_2-bytes.ensures) c.same_reading.ensures
