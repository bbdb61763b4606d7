use Rattle.std.proofs.Common.{rules, ◌≡◌, ◌∙◌, true, sym, subst, inl}
use Rattle.std.specs.List.Sorted.{IsStrictlySortedBy}
use Rattle.borsh_codec.specs.Maps.{IsOutOfOrder, unit_entries}
use Rattle.borsh_codec.proofs.Laws.Maps.Types.{alone-lawful, keyed_alone}
use Rattle.borsh_codec.proofs.DecodeViews.{made_exit, made_err, made_ok}
use Rattle.borsh_codec.proofs.ReadMaps.{denied_entries, denied_order, denied_bare, reads_bare, reads_entries, keys-bare_entries}
use Rattle.borsh_de.proofs.entries.read_keys.Goals as goal

pub returns-in_err-read : goal.returns-in_err-read
returns-in_err-read g c =
    let codec = g.K.BorshType.codec in
    made_exit (λ v. unit_entries v.items) _ c.from_residual.ensures.1 (λ h. h) (λ p. denied_entries codec.is_zero_width (denied_bare codec codec.is_zero_width p)) c.in_err-read.ensures

pub returns-in_err-check_keys : goal.returns-in_err-check_keys
returns-in_err-check_keys g c =
    let codec = g.K.BorshType.codec in
    let read = reads_bare codec codec.is_zero_width _ c.in_ok-read.ensures.ok in
    let same : c.deref.result.now ≡ c.in_ok-read.read.items = search rules in
    let why = subst (λ l. IsOutOfOrder g.K.Ord.cmp c.strict_order.result (unit_entries l)) same c.in_err-check_keys.ensures.1 in
    let told = subst (λ m. IsOutOfOrder g.K.Ord.cmp m (unit_entries c.in_ok-read.read.items)) (c.strict_order.ensures ∙ read.took.takes.strict_order) why in
    let keyed = keyed_alone g.met.K.BorshType.lawful g.met.K.BorshKey.key g.met.K.Ord.total g.met.K.Ord.matches_eq in
    made_err (λ v. unit_entries v.items) _ c.from_residual-in_err-check_keys.ensures.1 (λ h. h) c.in_ok-read.ensures
    (denied_order codec.is_zero_width (alone-lawful g.met.K.BorshType.lawful g.met.K.BorshKey.key) keyed (inl c.in_err-check_keys.ensures.0) told read)

pub returns : goal.returns
returns g c =
    let codec = g.K.BorshType.codec in
    let read = reads_bare codec codec.is_zero_width _ c.in_ok-read.ensures.ok in
    let up : c.strict_order.result ≡ true → IsStrictlySortedBy g.K.Ord.cmp c.in_ok-read.read.items = search rules in
    made_ok (λ v. unit_entries v.items) (λ h. h) c.in_ok-read.ensures
    (reads_entries codec.is_zero_width
    (λ e. subst (IsStrictlySortedBy g.K.Ord.cmp) (sym (keys-bare_entries c.in_ok-read.read.items)) (up (c.strict_order.ensures ∙ read.took.takes.strict_order ∙ e))) read)
