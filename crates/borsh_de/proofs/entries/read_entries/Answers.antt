use Rattle.std.proofs.Common.{rules, ◌≡◌, ◌∙◌, true, subst, inl}
use Rattle.std.specs.List.Sorted.{IsStrictlySortedBy}
use Rattle.std.specs.Map.{keys_of}
use Rattle.borsh_codec.specs.Maps.{IsOutOfOrder}
use Rattle.borsh_codec.proofs.Laws.Pairs.{pair-lawful}
use Rattle.borsh_codec.proofs.Laws.Maps.Types.{keyed_pairs}
use Rattle.borsh_codec.proofs.DecodeViews.{made_exit, made_err, made_ok}
use Rattle.borsh_codec.proofs.ReadMaps.{denied_entries, denied_order, reads_entries}
use Rattle.borsh_de.proofs.entries.read_entries.Goals as goal

pub returns-in_err-read : goal.returns-in_err-read
returns-in_err-read g c = made_exit (λ v. v.items) _ c.from_residual.ensures.1 (λ h. h) (denied_entries g.K.BorshType.codec.is_zero_width) c.in_err-read.ensures

pub returns-in_err-check_entries : goal.returns-in_err-check_entries
returns-in_err-check_entries g c =
    let read = c.in_ok-read.ensures.ok in
    let same : c.deref.result.now ≡ c.in_ok-read.read.items = search rules in
    let why = subst (λ l. IsOutOfOrder g.K.Ord.cmp c.strict_order.result l) same c.in_err-check_entries.ensures.1 in
    let told = subst (λ m. IsOutOfOrder g.K.Ord.cmp m c.in_ok-read.read.items) (c.strict_order.ensures ∙ read.took.takes.strict_order) why in
    let keyed = keyed_pairs g.met.K.BorshType.lawful g.met.K.BorshKey.key g.met.K.Ord.total g.met.K.Ord.matches_eq g.V.BorshType.codec in
    made_err (λ v. v.items) _ c.from_residual-in_err-check_entries.ensures.1 (λ h. h) c.in_ok-read.ensures
    (denied_order g.K.BorshType.codec.is_zero_width (pair-lawful g.met.K.BorshType.lawful g.met.V.BorshType.lawful) keyed (inl c.in_err-check_entries.ensures.0) told read)

pub returns : goal.returns
returns g c =
    let read = c.in_ok-read.ensures.ok in
    let up : c.strict_order.result ≡ true → IsStrictlySortedBy g.K.Ord.cmp (keys_of c.in_ok-read.read.items) = search rules in
    made_ok (λ v. v.items) (λ h. h) c.in_ok-read.ensures
    (reads_entries g.K.BorshType.codec.is_zero_width (λ e. up (c.strict_order.ensures ∙ read.took.takes.strict_order ∙ e)) read)
