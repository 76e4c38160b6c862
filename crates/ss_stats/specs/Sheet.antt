-- A writer of records over bytes in memory, between two records.
use Rattle.std.specs.Prelude.{◌≡◌, ℕ, List, ◌++◌, false, Vec}
use Rattle.csv.specs.Writing.{default_writer, writer_setup, fields_written, has_written, writer_under, writer_pending}
use Rattle.csv.specs.declared.writer.Writer.{Writer}

-- it writes as `csv` does by default, and no record is begun
pub record IsReady {A : Type 0} (w : Writer (Vec ℕ A)) : Type 0 where
  pub setup : writer_setup w ≡ default_writer
  pub fields : fields_written w ≡ 0
  pub wrote : has_written w ≡ false

-- what was written to it
abbrev pub written : {A : Type 0} → Writer (Vec ℕ A) → List ℕ
written w = (writer_under w).items ++ writer_pending w
