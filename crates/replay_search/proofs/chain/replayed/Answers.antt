-- The searches that are left, from the memory so far, are those of the line.
use mathlib.Core.Path.{sym, ◌∙◌}
use Rattle.minimax.specs.Report.{responses_of}
use Rattle.replay_search.proofs.ChainsLines.{chain_start, chain_differs, chain_next, chain_end}
use Rattle.replay_search.proofs.chain.replayed.Goals as goal

pub loop-k-init : goal.loop-k-init
loop-k-init c =
    let a = c.args in chain_start a.line.now a.draw_winner a.allowance a.count (responses_of a.begun.responses) a.table.now

pub returns-in_default : goal.returns-in_default
returns-in_default c =
    let l = c.loop-k in
    let a = c.args in
    chain_differs a.line.now a.draw_winner a.allowance a.count l.k l.so_far (responses_of l.state.responses) l.table _ _
    c.loop-k-test.true c.searched.ensures c.in_default.is ∙ l.invariant

pub loop-k-preserved : goal.loop-k-preserved
loop-k-preserved c =
    let l = c.loop-k in
    let a = c.args in
    chain_next a.line.now a.draw_winner a.allowance a.count l.k l.so_far (responses_of l.state.responses) l.table _ _
    c.loop-k-test.true c.searched.ensures c.in-Some.report c.in-Some.is _ c.with_search-so_far.ensures ∙ l.invariant

pub returns : goal.returns
returns c =
    let l = c.loop-k in
    let a = c.args in
    sym (chain_end a.line.now a.draw_winner a.allowance a.count l.k l.so_far (responses_of l.state.responses) l.table
    c.loop-k-test.false) ∙ l.invariant
