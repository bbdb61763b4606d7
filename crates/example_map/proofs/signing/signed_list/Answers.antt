use Rattle.std.proofs.Common.{ℕ, ◌+◌, ◌≤◌, true, List, Result, Ok, Err, IfOk, length}
use Rattle.borsh.specs.Codec.{Codec, Lawful}
use Rattle.borsh.specs.Shapes.{list}
use Rattle.borsh.specs.Laws.Rows.{elements_long}
use Rattle.example_map.proofs.signing.signed_list.Goals as goal

-- a list that the bytes decode to has fewer elements than there are bytes
decoded_long : {A V E : Type 0} {c : Codec A} → Lawful A c → (items : V → List A) (bytes : List ℕ) (r : Result V E) → IfOk r (λ v. (list c).decodes true bytes (items v)) → IfOk r (λ v. 4 + length (items v) ≤ length bytes)
decoded_long l items bytes (Ok v) d = elements_long l true bytes (items v) d
decoded_long l items bytes (Err e) d = tt

pub returns : goal.returns
returns g c = decoded_long g.met.T.BorshType.lawful (λ v. v.items) c.args.bytes.now c.from_slice.result c.from_slice.ensures.ok
