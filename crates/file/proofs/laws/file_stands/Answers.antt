use Rattle.std.proofs.Common.{refl}
use Rattle.file.proofs.ReadBack.{read_write}
use Rattle.file.proofs.WrittenSo.{write_read}
use Rattle.file.proofs.laws.file_stands.Goals as goal

pub returns : goal.returns
returns c = (read_write, write_read, λ bs. refl, (refl, refl, refl, refl, refl, refl, refl, refl, refl))
