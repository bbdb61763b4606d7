use Rattle.std.proofs.Common.{true, refl, subst, sym, true≢false}
use Rattle.std.specs.Str.{IsUtf8, is_utf8}
use Rattle.std.proofs.lemmas.Str.{IsUtf8-string_bytes, IsUtf8-from_is_utf8, is_utf8-from_IsUtf8}
use Rattle.borsh_codec.proofs.Laws.Numbers.{unsigned-lawful}
use Rattle.borsh_codec.proofs.Laws.Rows.{length_prefixed-lawful}
use Rattle.borsh_codec.proofs.Laws.Types.{utf8_respects}
use Rattle.borsh_codec.proofs.DecodeViews.{as_err, as_ok, as_not}
use Rattle.borsh_codec.proofs.ReadParts.{reads_passed, denied_passed, denied_failed}
use Rattle.borsh_de.proofs.texts.read_text.Goals as goal

pub returns-in_err-bytes : goal.returns-in_err-bytes
returns-in_err-bytes g c = as_err _ c.from_residual.ensures.1 refl (denied_passed true is_utf8 c.in_err-bytes.ensures.err)

pub returns-in-Ok : goal.returns-in-Ok
returns-in-Ok g c =
    let e = c.in-Ok.ensures.ok in
    as_ok refl (rw e (reads_passed true is_utf8 (is_utf8-from_IsUtf8 _ (subst (λ v. IsUtf8 v.items) e (IsUtf8-string_bytes c.in-Ok.string))) c.in_ok-bytes.ensures.ok))

pub returns-in-Err : goal.returns-in-Err
returns-in-Err g c =
    as_not refl (denied_failed true is_utf8 utf8_respects (length_prefixed-lawful (unsigned-lawful 1)) c.in_ok-bytes.ensures.ok c.invalid_data.ensures.kind (λ e. true≢false (sym (c.in-Err.ensures.succeeds (IsUtf8-from_is_utf8 _ e)))))
