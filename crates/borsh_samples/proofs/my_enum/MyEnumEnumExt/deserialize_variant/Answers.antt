use Rattle.std.proofs.Common.{arith}
use Rattle.borsh.specs.Shapes.{unsigned, unit, never}
use Rattle.borsh.specs.Laws.Variants.{nothing_avoids}
use Rattle.borsh.proofs.DecodeVariants.{variant_exit, variant_ok}
use Rattle.borsh.proofs.ReadParts.{behind_contramap, denied_behind_contramap, denied_here, denied_there, reads_here, reads_there}
use Rattle.borsh_samples.specs.MyEnum.{my_enum_view}
use Rattle.borsh_samples.proofs.my_enum.MyEnumEnumExt.deserialize_variant.Goals as goal

pub returns-in_err-deserialize_reader-in-2 : goal.returns-in_err-deserialize_reader-in-2
returns-in_err-deserialize_reader-in-2 g c =
    let refused = denied_there 2 0 unit (λ e. omega arith) (denied_there 2 1 (unsigned 1) (λ e. omega arith) (denied_here 2 never (nothing_avoids 2) c.in_err-deserialize_reader-in-2.ensures.err)) in
    rw c.in-2.is (variant_exit _ c.from_residual-in_err-deserialize_reader-in-2.ensures.1 (denied_behind_contramap my_enum_view refused))

pub returns-in_ok-deserialize_reader-in-2 : goal.returns-in_ok-deserialize_reader-in-2
returns-in_ok-deserialize_reader-in-2 g c =
    let read = reads_there 2 0 unit (reads_there 2 1 (unsigned 1) (reads_here 2 never c.in_ok-deserialize_reader-in-2.ensures.ok)) in
    rw c.in-2.is (variant_ok (record { took = read.took; made = read.made }))
