-- The game's parts are those of the words.
use Rattle.interface.proofs.PositionWords.{game_made}
use Rattle.interface.proofs.position.game_from.Goals as goal

pub returns : goal.returns
returns c =
    game_made c.args.words.now _ _ _ _ _ _ c.from_number.ensures c.next_board_from.ensures c.from_number-2.ensures
    c.row.ensures c.row-2.ensures c.row-3.ensures
