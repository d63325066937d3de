-- Answers that may refuse, as numbers.
use Rattle.std.specs.Prelude.{ℕ, Result, Ok, Err}

-- the number of an answer by those of its refusals, 0 where nothing is refused
abbrev pub answer_number : {T E : Type 0} → (E → ℕ) → Result T E → ℕ
answer_number number_of (Ok x) = 0
answer_number number_of (Err why) = number_of why
