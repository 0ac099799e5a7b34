-- The published number of each refusal, and of what a function answers that may refuse. Definitions only.
use Rattle.std.specs.Prelude.{ℕ, Result, Ok, Err}
use Rattle.format.specs.declared.refusal.Refusal.{Refusal}
use Rattle.format.specs.declared.refusal.Refusal.TheVariants.{JobLength, WorkLength, Version, HeadValue, NumberAfterKind, JobEnds, BytesLeftOver}
use Rattle.format.specs.declared.refusal.Refusal.TheVariants.{Obstacle, Count, KeyByte, KeyOrder, MarkTotal, Vertex, SheetLength, SearchRoom, Ceiling}

abbrev pub number_of : Refusal → ℕ
number_of JobLength = 1
number_of WorkLength = 2
number_of Version = 3
number_of HeadValue = 4
number_of NumberAfterKind = 5
number_of JobEnds = 6
number_of BytesLeftOver = 7
number_of Obstacle = 8
number_of Count = 9
number_of KeyByte = 10
number_of KeyOrder = 11
number_of MarkTotal = 12
number_of Vertex = 13
number_of SheetLength = 14
number_of SearchRoom = 15
number_of Ceiling = 16

-- 0 where a value is answered
abbrev pub fault_of : {A : Type 0} → Result A Refusal → ℕ
fault_of (Ok value) = 0
fault_of (Err refusal) = number_of refusal
