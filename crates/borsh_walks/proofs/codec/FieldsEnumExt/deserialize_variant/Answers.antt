use Rattle.std.proofs.Common.{arith}
use Rattle.borsh_codec.proofs.DecodeVariants.{variant_exit, variant_ok}
use Rattle.borsh_codec.proofs.ReadParts.{behind_contramap, reads_here, reads_there, denied_behind_contramap, denied_here, denied_there}
use Rattle.borsh_walks.specs.Codecs.{fields_view, vec_of, named, from_unnamed, from_empty, empty_avoids, unnamed_avoids}
use Rattle.borsh_walks.proofs.codec.FieldsEnumExt.deserialize_variant.Goals as goal

pub returns-in_err-fields-in-0 : goal.returns-in_err-fields-in-0
returns-in_err-fields-in-0 g c =
    rw c.in-0.is (variant_exit _ c.from_residual.ensures.1 (denied_behind_contramap fields_view (denied_here 0 from_unnamed (unnamed_avoids 0 (λ e. omega arith) (empty_avoids 0 (λ e. omega arith))) c.in_err-fields-in-0.ensures.err)))

pub returns-in_ok-fields-in-0 : goal.returns-in_ok-fields-in-0
returns-in_ok-fields-in-0 g c = rw c.in-0.is (variant_ok (behind_contramap fields_view (reads_here 0 from_unnamed c.in_ok-fields-in-0.ensures.ok)))

pub returns-in_err-names-in-1 : goal.returns-in_err-names-in-1
returns-in_err-names-in-1 g c =
    rw c.in-1.is (variant_exit _ c.from_residual-in_err-names-in-1.ensures.1 (denied_behind_contramap fields_view (denied_there 1 0 (vec_of named) (λ e. omega arith) (denied_here 1 from_empty (empty_avoids 1 (λ e. omega arith)) c.in_err-names-in-1.ensures.err))))

pub returns-in_ok-names-in-1 : goal.returns-in_ok-names-in-1
returns-in_ok-names-in-1 g c = rw c.in-1.is (variant_ok (behind_contramap fields_view (reads_there 1 0 (vec_of named) (reads_here 1 from_empty c.in_ok-names-in-1.ensures.ok))))
