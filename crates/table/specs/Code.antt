-- What only the code's shape needs: the lists that its answers on reads and writes stand for.
use Rattle.std.specs.Prelude.{List, [], ◌∷◌}
use Rattle.table.specs.ReadWrite.{Read, Write}
pub use Rattle.table.specs.declared.Reads.{Reads}
pub use Rattle.table.specs.declared.Writes.{Writes}

abbrev pub all_reads : Reads → List Read
all_reads Reads.Nothing = []
all_reads (Reads.One w) = w ∷ []
all_reads (Reads.FourFloats a b c d) = Read.Float a ∷ Read.Float b ∷ Read.Float c ∷ Read.Float d ∷ []

abbrev pub all_writes : Writes → List Write
all_writes Writes.Nothing = []
all_writes (Writes.One g) = g ∷ []
all_writes (Writes.TwoFloats a b) = Write.Float a ∷ Write.Float b ∷ []
