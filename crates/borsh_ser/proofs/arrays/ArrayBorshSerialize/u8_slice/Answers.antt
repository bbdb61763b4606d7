use Rattle.std.proofs.Common.{IfSome, Option, Some, None, sym, ◌∙◌, ap}
use Rattle.borsh_codec.specs.Shapes.{concat_encodings}
use Rattle.borsh_ser.proofs.ArrayLaws.{arrays_joined}
use Rattle.borsh_ser.proofs.arrays.ArrayBorshSerialize.u8_slice.Goals as goal

if_so : {A : Type 0} {P Q : A → Type 0} (o : Option A) → ((a : A) → P a → Q a) → IfSome o P → IfSome o Q
if_so None f h = h
if_so (Some a) f h = f a h

pub returns-clause-bytes : goal.returns-clause-bytes
returns-clause-bytes g c =
    let all = c.in_ok-elements_of.ensures in
    let joined = arrays_joined g.row.N g.met.T.BorshType.lawful c.args.slice.now all.lengths in
    if_so c.u8_slice.result (λ bytes e. joined ∙ ap (concat_encodings g.T.BorshType.codec.encoding) (sym all.elements) ∙ e) c.u8_slice.ensures.bytes
