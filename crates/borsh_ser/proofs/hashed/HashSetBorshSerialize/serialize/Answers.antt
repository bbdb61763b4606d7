use Rattle.std.proofs.Common.{rules, ◌≡◌, ◌∙◌, refl, ap, map}
use Rattle.std.specs.Bool.{⊤}
use Rattle.std.proofs.lemmas.Result.{err_from_is_err_and}
use Rattle.borsh_codec.specs.Maps.{key_only, unit_entries, sorted_by_key, hash_entries}
use Rattle.borsh_codec.specs.Shapes.{length_prefixed}
use Rattle.borsh_codec.proofs.WriteOutcomes.{writes_is, writes_own, writes_memory, writes_allowed_if}
use Rattle.borsh_codec.proofs.WriteMaps.{counted-map}
use Rattle.borsh_ser.proofs.Items.{refused_exit}
use Rattle.borsh_ser.proofs.hashed.HashSetBorshSerialize.serialize.Goals as goal

pub returns-in_err-refuse_empty : goal.returns-in_err-refuse_empty
returns-in_err-refuse_empty g c =
    let k = g.K.BorshType.codec in
    refused_exit g.met.W.Write.lawful k.is_zero_width (hash_entries g.K.Ord.cmp (λ v w. ⊤) (key_only k)) (unit_entries c.args.self.now.keys) _ _ c.from_residual.ensures.1 c.in_err-refuse_empty.ensures

pub returns-in_err-keys : goal.returns-in_err-keys
returns-in_err-keys g c =
    let p = err_from_is_err_and c.from_residual-in_err-keys.result c.from_residual-in_err-keys.ensures.1 in
    rw p.1 (writes_memory g.met.W.Write.lawful _ _ c.in_ok-refuse_empty.ensures p.2.0)

pub returns : goal.returns
returns g c =
    let k = g.K.BorshType.codec in
    let sorts : map (λ r. (r.now, tt)) c.as_slice.result.now ≡ sorted_by_key g.K.Ord.cmp (unit_entries c.args.self.now.keys) = search rules in
    let written = counted-map (key_only k) (λ r. (r.now, tt)) c.as_slice.result.now ∙ ap (length_prefixed (key_only k)).encoding sorts in
    writes_allowed_if k.is_zero_width (hash_entries g.K.Ord.cmp (λ v w. ⊤) (key_only k)) (unit_entries c.args.self.now.keys) c.in_ok-refuse_empty.ensures (writes_own (λ _. refl) (writes_is written c.write_counted.ensures))
