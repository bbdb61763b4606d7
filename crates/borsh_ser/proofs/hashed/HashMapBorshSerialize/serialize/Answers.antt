use Rattle.std.proofs.Common.{rules, ◌≡◌, ◌∙◌, refl, ap, map, length}
use Rattle.std.specs.Map.Iter.{TakesFirst, deref_pair}
use Rattle.std.proofs.lemmas.Result.{err_from_is_err_and}
use Rattle.borsh_codec.specs.Maps.{sorted_by_key, hash_entries}
use Rattle.borsh_codec.specs.Shapes.{contramap, length_prefixed, pair}
use Rattle.borsh_codec.proofs.WriteOutcomes.{writes_is, writes_own, writes_memory, writes_allowed_if}
use Rattle.borsh_codec.proofs.WriteMaps.{counted-map}
use Rattle.borsh_ser.proofs.Items.{writes_shown, refused_exit}
use Rattle.borsh_ser.proofs.hashed.HashMapBorshSerialize.serialize.Goals as goal

pub returns-in_err-refuse_empty : goal.returns-in_err-refuse_empty
returns-in_err-refuse_empty g c =
    let k = g.K.BorshType.codec in
    let v = g.V.BorshType.codec in
    refused_exit g.met.W.Write.lawful k.is_zero_width (hash_entries g.K.Ord.cmp v.equivalent (pair k v)) c.args.self.now.entries _ _ c.from_residual.ensures.1 c.in_err-refuse_empty.ensures

pub returns-in_err-entries : goal.returns-in_err-entries
returns-in_err-entries g c =
    let p = err_from_is_err_and c.from_residual-in_err-entries.result c.from_residual-in_err-entries.ensures.1 in
    rw p.1 (writes_memory g.met.W.Write.lawful _ _ c.in_ok-refuse_empty.ensures p.2.0)

pub returns : goal.returns
returns g c =
    let k = g.K.BorshType.codec in
    let v = g.V.BorshType.codec in
    let item = pair k v in
    let all = c.as_slice.result.now in
    let sorts : map deref_pair all ≡ sorted_by_key g.K.Ord.cmp c.args.self.now.entries = search rules in
    let written = counted-map item deref_pair all ∙ ap (length_prefixed item).encoding sorts in
    let counts : c.len.result ≡ length all = search rules in
    writes_allowed_if k.is_zero_width (hash_entries g.K.Ord.cmp v.equivalent item) c.args.self.now.entries c.in_ok-refuse_empty.ensures
    (writes_own (λ _. refl) (writes_is written (writes_shown (λ s r t. TakesFirst (λ e. e) s.left.now r t.left.now) (λ e. e) (λ s. s.left.now) (λ s t e. ap length e.0) (λ s t e i. i) (contramap deref_pair item) all _ refl counts c.write_items.ensures)))
