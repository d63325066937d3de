-- Too long, not three sections, or what the three give.
use Rattle.notation.proofs.Sections.{all_ahead, next_ahead, FirstFour, are_three, three_come}
use Rattle.notation.proofs.ParsedAnswers.{parses_too_long, parses_not_three, parses_three}
use borrow.Author.Rules.{rules}
use Rattle.text.specs.Reading.{sections}
use Rattle.notation.proofs.parse.Goals as goal
use Rattle.notation.proofs.parse.Goals.{After-next-4, in_default-via-in-Some+in-Some+in-Some+in_default}
use Rattle.notation.proofs.parse.Goals.{in_default-via-in-Some+in-Some+in_default, in_default-via-in-Some+in_default}
use Rattle.notation.proofs.parse.Goals.{in_default-via-in_default}

pub returns-then-text-gt-LONGEST : goal.returns-then-text-gt-LONGEST
returns-then-text-gt-LONGEST c = parses_too_long _ _ c.if-text-gt-LONGEST.true c.at.ensures

-- what `next` gives four times
four : (c : After-next-4) → FirstFour c.next.result c.next-2.result c.next-3.result c.next-4.result (sections c.args.text.now)
four c =
    let s = c.split-bits in
    let all = all_ahead _ _ (λ a r f k. search rules) s.ensures.done s.ensures.rest in
    let a = next_ahead _ s.result c.next.new.self _ all c.next.ensures.steps in
    let b = next_ahead _ c.next.new.self c.next-2.new.self _ a.1 c.next-2.ensures.steps in
    let d = next_ahead _ c.next-2.new.self c.next-3.new.self _ b.1 c.next-3.ensures.steps in
    let e = next_ahead _ c.next-3.new.self c.next-4.new.self _ d.1 c.next-4.ensures.steps in
    record { zeroth = a.0; next = b.0; second = d.0; third = e.0 }

pub returns-in-Some-Some-Some-None : goal.returns-in-Some-Some-Some-None
returns-in-Some-Some-Some-None c =
    let w = c.in-Some-Some-Some-None in
    let f = four (goal.at.returns-in-Some-Some-Some-None c).After-next-4 in
    parses_three _ c.if-text-gt-LONGEST.false _ _ _ _
    (are_three _ _ _ _ w.side w.overall w.cells _ f (search rules) (search rules) (search rules) (search rules)) c.parse_sections.ensures

pub returns-in_default : goal.returns-in_default
returns-in_default c =
    let four_are = four (goal.at.returns-in_default c).After-next-4 in
    parses_not_three _ c.if-text-gt-LONGEST.false _ (λ n. let t = three_come _ _ _ _ _ four_are n in
    elim c.in_default.branch [
      | in_default-via-in-Some+in-Some+in-Some+in_default w ↦ let f = t.3 in search rules
      | in_default-via-in-Some+in-Some+in_default w ↦ let f = t.2 in search rules
      | in_default-via-in-Some+in_default w ↦ let f = t.1 in search rules
      | in_default-via-in_default w ↦ let f = t.0 in search rules
    ]) c.at-in_default.ensures
