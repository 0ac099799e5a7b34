-- What the writer of a sheet leaves behind. Definitions only.
use Rattle.std.specs.Prelude.{ℕ, ◌+◌, ◌≡◌, List, length}
use Rattle.std.proofs.lemmas.List.Edits.{sets}
use Rattle.sheet.specs.declared.Writer.{Writer}

-- the bytes, with n zones in them, were put where the writer stood
pub record Put (bytes : List ℕ) (n : ℕ) (w w' : Writer) : Type 0 where
  pub same : w'.sheet.ghost_name ≡ w.sheet.ghost_name
  pub put : w'.sheet.now ≡ sets w.sheet.now w.at bytes
  pub at : w'.at ≡ w.at + length bytes
  pub zones : w'.zones ≡ w.zones + n
