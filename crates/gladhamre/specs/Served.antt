-- What is told of a command: its number, the reply's length and the blocks recorded. An error is a refusal on the link.
use Rattle.std.specs.Prelude.{ℕ, Result, Ok, Err}
use Rattle.protocol.specs.Answer.{number}
use Rattle.gladhamre.specs.Types.{LinkRefusal, Link, Outcome}

abbrev pub number_of : Result Outcome LinkRefusal → ℕ
number_of (Ok o) = number o.answer
number_of (Err r) = number (Link r)

abbrev pub length_of : Result Outcome LinkRefusal → ℕ
length_of (Ok o) = o.length
length_of (Err r) = 0

abbrev pub recorded_of : Result Outcome LinkRefusal → ℕ
recorded_of (Ok o) = o.recorded
recorded_of (Err r) = 0
