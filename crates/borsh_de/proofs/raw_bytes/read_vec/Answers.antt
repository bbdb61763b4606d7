use Rattle.std.proofs.Common.{arith, ◌≡◌, ◌-◌, ◌≤◌, ◌++◌, length, take, drop, refl, sym, ◌∙◌, ap, length-append}
use Rattle.std.proofs.lemmas.List.{length-take, length-drop, take_all, take_at}
use Rattle.borsh_codec.proofs.ReadSteps.{took_weaker, took_nothing, took_then}
use Rattle.borsh_codec.proofs.DecodeViews.{as_err, as_not, as_ok}
use Rattle.borsh_codec.proofs.ReadBytes.{reads_bytes, denied_bytes}
use Rattle.borsh_de.proofs.Pieces.{grown, fits_both}
use Rattle.borsh_de.proofs.FewBytes.{denied_few}
use Rattle.borsh_de.proofs.raw_bytes.read_vec.Goals as goal

pub returns-then-left-len : goal.returns-then-left-len
returns-then-left-len g c = as_not refl (denied_few c.in-Some.ensures c.if-left-len.true c.unexpected_length.ensures)

pub returns-in_err-fill : goal.returns-in_err-fill
returns-in_err-fill g c =
    as_err _ c.from_residual-in_err-fill.ensures.1 refl (denied_bytes (omega (arith, c.deref_mut.ensures.len, c.in_ok-bytes.ensures.len, c.first_room.ensures.few)) (took_nothing _ refl) c.in_err-fill.ensures.err)

pub returns-in_err-fill-2 : goal.returns-in_err-fill-2
returns-in_err-fill-2 g c =
    let now = c.deref_mut-in-bytes.result.now in
    let filled = c.len-filled.result in
    let piece : length (take (length now - filled) (drop filled now)) ≤ length now - filled = omega (arith, length-take (length now - filled) (drop filled now)) in
    as_err _ c.from_residual-in_err-fill-2.ensures.1 refl (denied_bytes (omega (arith, piece, c.bytes.invariant.few, c.len-filled.ensures, c.deref_mut-in-bytes.ensures.len, c.in_ok-resize.ensures.len, c.min.ensures)) c.bytes.invariant.took c.in_err-fill-2.ensures.err)

pub returns : goal.returns
returns g c = as_ok refl (reads_bytes (omega (arith, c.bytes.invariant.few, c.bytes-test.false, c.len.ensures)) c.bytes.invariant.fit c.bytes.invariant.took)

pub bytes-preserved : goal.bytes-preserved
bytes-preserved g c =
    let i = c.bytes.invariant in
    let xs = c.bytes.bytes.items in
    let resized = c.deref_mut-in-bytes.result.now in
    let filled = c.len-filled.result in
    let buf = c.fill-in-bytes.new.buf in
    let long = c.deref_mut-in-bytes.ensures.len ∙ c.in_ok-resize.ensures.len in
    let was = c.deref_mut-in-bytes.ensures.value ∙ c.in_ok-resize.ensures.items in
    let whole = take_all c.min.result xs (omega (arith, c.len-filled.ensures, i.few, c.min.ensures)) in
    let start : take filled resized ≡ xs = rw (was, whole) (take_at xs _ filled (omega (arith, c.len-filled.ensures))) in
    let all = grown xs resized buf _ filled _ start (omega (arith, c.len-filled.ensures, long, c.min.ensures)) (omega (arith, c.fill-in-bytes.auto.buf, length-drop filled resized, length-take (length resized - filled) (drop filled resized))) (sym c.deref_mut-in-bytes.ensures.len) in
    record {
      took = took_weaker (λ x p. p.whole ∙ ap (λ z. z ++ p.second) p.left ∙ ap (λ z. xs ++ z) p.right ∙ sym all) (took_then i.took c.in_ok-fill-2.ensures.ok);
      few = omega (arith, ap length all, length-append xs buf);
      fit = λ k. rw all (fits_both xs buf i.fit c.in_ok-fill-2.ensures.fits k);
      some = λ h. omega (arith, ap length all, length-append xs buf, i.some h);
    }
