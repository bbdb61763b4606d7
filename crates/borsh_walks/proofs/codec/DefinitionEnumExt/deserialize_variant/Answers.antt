use Rattle.std.proofs.Common.{arith}
use Rattle.borsh_codec.specs.Shapes.{unsigned}
use Rattle.borsh_codec.proofs.DecodeVariants.{variant_exit, variant_ok}
use Rattle.borsh_codec.proofs.ReadParts.{behind_contramap, reads_here, reads_there, denied_behind_contramap, denied_here, denied_there}
use Rattle.borsh_walks.specs.Codecs.{definition_view, vec_of, name, sequence_codec, from_tuple, from_enum, from_struct, struct_avoids, enum_avoids, tuple_avoids}
use Rattle.borsh_walks.proofs.codec.DefinitionEnumExt.deserialize_variant.Goals as goal

pub returns-in_err-length_width-in-1 : goal.returns-in_err-length_width-in-1
returns-in_err-length_width-in-1 g c =
    rw c.in-1.is (variant_exit _ c.from_residual-in_err-length_width-in-1.ensures.1 (denied_behind_contramap definition_view (denied_there 1 0 (unsigned 1) (λ e. omega arith) (denied_here 1 from_tuple (tuple_avoids 1 (λ e. omega arith) (enum_avoids 1 (λ e. omega arith) (struct_avoids 1 (λ e. omega arith)))) c.in_err-length_width-in-1.ensures.err))))

pub returns-in_err-elements-in-2 : goal.returns-in_err-elements-in-2
returns-in_err-elements-in-2 g c =
    rw c.in-2.is (variant_exit _ c.from_residual-in_err-elements-in-2.ensures.1 (denied_behind_contramap definition_view (denied_there 2 0 (unsigned 1) (λ e. omega arith) (denied_there 2 1 sequence_codec (λ e. omega arith) (denied_here 2 from_enum (enum_avoids 2 (λ e. omega arith) (struct_avoids 2 (λ e. omega arith))) c.in_err-elements-in-2.ensures.err)))))

pub returns-in_err-tag_width-in-3 : goal.returns-in_err-tag_width-in-3
returns-in_err-tag_width-in-3 g c =
    rw c.in-3.is (variant_exit _ c.from_residual-in_err-tag_width-in-3.ensures.1 (denied_behind_contramap definition_view (denied_there 3 0 (unsigned 1) (λ e. omega arith) (denied_there 3 1 sequence_codec (λ e. omega arith) (denied_there 3 2 (vec_of name) (λ e. omega arith) (denied_here 3 from_struct (struct_avoids 3 (λ e. omega arith)) c.in_err-tag_width-in-3.ensures.err))))))

pub returns-in_ok-elements-in-2 : goal.returns-in_ok-elements-in-2
returns-in_ok-elements-in-2 g c = rw c.in-2.is (variant_ok (behind_contramap definition_view (reads_there 2 0 (unsigned 1) (reads_there 2 1 sequence_codec (reads_here 2 from_enum c.in_ok-elements-in-2.ensures.ok)))))
