-- Outcomes of reads of what follows a tag.
use Rattle.std.proofs.Common.{◌≡◌, ◌∙◌, ℕ, Result, Ok, Err, sym, ap, subst}
use Rattle.std.specs.Result.{IsErrAnd}
use Rattle.std.proofs.lemmas.Result.{err_from_is_err_and}
use Rattle.borsh_io.specs.declared.error.Error.{Error}
use Rattle.borsh_io.specs.Errors.{error_kind}
use Rattle.borsh_io.specs.Stream.{ReaderState}
use Rattle.borsh_codec.specs.Codec.{Codec}
use Rattle.borsh_codec.specs.Reading.{DecodedAfterTag, NotDecodedAfterTag, DecodesAfterTag}

-- at the exit of a `?`
pub variant_exit : {A R : Type 0} {c : Codec A} {state : R → ReaderState} {a b : R} {j : ℕ} (e : Error) {r : Result A Error} → IsErrAnd r (λ y. y ≡ e) → NotDecodedAfterTag j A c (state a) (state b) (error_kind e) → DecodesAfterTag j c state a b r
variant_exit {c = c} {state = state} {a = a} {b = b} {j = j} e {r = r} is f =
    let p = err_from_is_err_and r is in
    subst (DecodesAfterTag j c state a b) (sym (p.1 ∙ ap (λ y. Err y) p.2)) (record { ok = tt; err = f })

pub variant_ok : {A R : Type 0} {c : Codec A} {state : R → ReaderState} {a b : R} {j : ℕ} {v : A} → DecodedAfterTag j A c (state a) (state b) v → DecodesAfterTag j c state a b (Ok v)
variant_ok p = record { ok = p; err = tt }

pub variant_err : {A R : Type 0} {c : Codec A} {state : R → ReaderState} {a b : R} {j : ℕ} {e : Error} → NotDecodedAfterTag j A c (state a) (state b) (error_kind e) → DecodesAfterTag j c state a b (Err e)
variant_err f = record { ok = tt; err = f }
