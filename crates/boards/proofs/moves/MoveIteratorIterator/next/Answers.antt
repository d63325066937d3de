-- The lowest bit of the first row that has one is the next move, and it goes.
use lib.Dec.{lit<}
use Rattle.boards.proofs.Cursor.{lowest_place, next_top, next_middle, next_bottom, next_none, nearer}
use Rattle.boards.proofs.moves.MoveIteratorIterator.next.Goals as goal

pub move_at-requires : goal.move_at-requires
move_at-requires c = (lit< tt, lowest_place c.args.self.now.top c.if-top-ne0.true)

pub returns-then-top-ne0-clause-steps : goal.returns-then-top-ne0-clause-steps
returns-then-top-ne0-clause-steps c = next_top _ _ _ c.if-top-ne0.true c.without_lowest.ensures c.move_at.ensures

pub returns-then-top-ne0-clause-goes : goal.returns-then-top-ne0-clause-goes
returns-then-top-ne0-clause-goes c =
    nearer _ _ _ (next_top _ _ _ c.if-top-ne0.true c.without_lowest.ensures c.move_at.ensures)

pub move_at-requires-then-middle-ne0 : goal.move_at-requires-then-middle-ne0
move_at-requires-then-middle-ne0 c = (lit< tt, lowest_place c.args.self.now.middle c.if-middle-ne0.true)

pub returns-then-middle-ne0-clause-steps : goal.returns-then-middle-ne0-clause-steps
returns-then-middle-ne0-clause-steps c =
    next_middle _ _ _ c.if-top-ne0.false c.if-middle-ne0.true c.without_lowest-then-middle-ne0.ensures
    c.move_at-then-middle-ne0.ensures

pub returns-then-middle-ne0-clause-goes : goal.returns-then-middle-ne0-clause-goes
returns-then-middle-ne0-clause-goes c =
    nearer _ _ _ (next_middle _ _ _ c.if-top-ne0.false c.if-middle-ne0.true c.without_lowest-then-middle-ne0.ensures
    c.move_at-then-middle-ne0.ensures)

pub move_at-requires-then-bottom-ne0 : goal.move_at-requires-then-bottom-ne0
move_at-requires-then-bottom-ne0 c = (lit< tt, lowest_place c.args.self.now.bottom c.if-bottom-ne0.true)

pub returns-then-bottom-ne0-clause-steps : goal.returns-then-bottom-ne0-clause-steps
returns-then-bottom-ne0-clause-steps c =
    next_bottom _ _ _ c.if-top-ne0.false c.if-middle-ne0.false c.if-bottom-ne0.true
    c.without_lowest-then-bottom-ne0.ensures c.move_at-then-bottom-ne0.ensures

pub returns-then-bottom-ne0-clause-goes : goal.returns-then-bottom-ne0-clause-goes
returns-then-bottom-ne0-clause-goes c = nearer _ _ _ (next_bottom _ _ _ c.if-top-ne0.false c.if-middle-ne0.false c.if-bottom-ne0.true
    c.without_lowest-then-bottom-ne0.ensures c.move_at-then-bottom-ne0.ensures)

pub returns-clause-steps : goal.returns-clause-steps
returns-clause-steps c = next_none _ c.if-top-ne0.false c.if-middle-ne0.false c.if-bottom-ne0.false
