-- Bytes that are read at once, as numbers of one byte.
use Rattle.std.proofs.Common.{◌≡◌, ℕ, suc, ◌+◌, ◌<◌, ◌≤◌, Bool, false, List, [], ◌∷◌, ◌++◌, length, get_or, take, drop, Option, Some, refl, sym, ◌∙◌, ap, subst, append_assoc, length-append, arith, true≢false, inl, inr}
use Rattle.std.proofs.lemmas.List.{take-append-drop, length-take-le}
use Rattle.borsh_io.specs.declared.error.ErrorKind.{ErrorKind}
use Rattle.borsh_io.specs.Stream.{ReaderState}
use Rattle.borsh_codec.specs.Codec.{IsDecodable}
use Rattle.borsh_codec.specs.Shapes.{unsigned, DecodesEach, array, allocated_array}
use Rattle.borsh_codec.proofs.Laws.Lists.{cuts, nil_of_length}
use Rattle.borsh_codec.proofs.Laws.Numbers.{length-number}
use Rattle.borsh_codec.specs.Reading.{TakesPrefix, NoPrefix, ReadFails, Decoded, NotDecoded}
use Rattle.borsh_codec.proofs.ReadSteps.{took_weaker, refused_map, Past, refused_after}
use Rattle.borsh_codec.proofs.NumberBytes.{byte_of}

-- bytes are read as themselves
pub bytes_in_order : (m : Bool) (bytes : List ℕ) → ((i : ℕ) → get_or bytes i 0 < 256) → DecodesEach ((unsigned 1).decodes m) bytes bytes
bytes_in_order m [] fit = refl
bytes_in_order m (b ∷ bytes) fit = record { first = b ∷ []; second = bytes; whole = refl; left = byte_of b (fit 0); right = bytes_in_order m bytes (λ i. fit (suc i)) }

length-in_order : (m : Bool) (x bytes : List ℕ) → DecodesEach ((unsigned 1).decodes m) x bytes → length x ≡ length bytes
length-in_order m x [] p = ap length p
length-in_order m x (b ∷ bytes) p =
    let e : length p.first ≡ 1 = length-number 1 b p.first p.left in
    omega (arith, e, ap length p.whole, length-append p.first p.second, length-in_order m p.second bytes p.right)

pub reads_bytes : {n : ℕ} {s t : ReaderState} {bytes : List ℕ} → length bytes ≡ n → ((i : ℕ) → get_or bytes i 0 < 256) → TakesPrefix (λ x. x ≡ bytes) s t → Decoded (List ℕ) (allocated_array n (unsigned 1)) s t bytes
reads_bytes {n = n} {s = s} {bytes = bytes} e fit p = record {
  took = took_weaker (λ x i. record { long = e; parts = subst (λ y. DecodesEach ((unsigned 1).decodes s.strict_order) y bytes) (sym i) (bytes_in_order s.strict_order bytes fit) }) p;
  made = λ k d h. tt;
}

-- fewer bytes than k are no row of more bytes
no_more : (k : ℕ) (o : Option (List ℕ)) → NoPrefix (λ x. length x ≡ k) o → NoPrefix (λ x. k ≤ length x) o
no_more k o none front rest e h =
    none (take k front) (drop k front ++ rest) (e ∙ ap Some (ap (λ z. z ++ rest) (sym (take-append-drop k front)) ∙ append_assoc (take k front) (drop k front) rest)) (length-take-le k front h)

row_past : (m : Bool) (n k : ℕ) (start : List ℕ) → length start + k ≤ n → (f r front rest : List ℕ) → f ≡ start → IsDecodable (allocated_array n (unsigned 1)) m front → f ++ r ≡ front ++ rest → Past (λ x. k ≤ length x) r rest
row_past m n k start h f r front rest p w e =
    let long : length front ≡ n = length-in_order m front w.0 w.1.parts ∙ w.1.long in
    elim (cuts f r front rest e) [
      | inl s ↦ record { more = s.more; whole = s.rest; holds = omega (arith, h, long, ap length p, ap length s.front, length-append f s.more) }
      | inr s ↦ (let none : s.more ≡ [] = nil_of_length s.more (omega (arith, h, long, ap length p, ap length s.front, length-append front s.more)) in
          record { more = []; whole = sym (s.rest ∙ ap (λ z. z ++ r) none); holds = omega (arith, h, long, ap length p, ap length s.front, length-append front s.more) })
    ]

-- of n bytes some were taken, and the next k are refused
pub denied_bytes : {n k : ℕ} {s t u : ReaderState} {start : List ℕ} {kind : ErrorKind} → length start + k ≤ n → TakesPrefix (λ x. x ≡ start) s t → ReadFails false false (λ x. length x ≡ k) t u kind → NotDecoded (List ℕ) (allocated_array n (unsigned 1)) s u kind
denied_bytes {n = n} {k = k} {s = s} {t = t} {start = start} h p r = record {
  refused = refused_after (λ e. absurd (true≢false (sym e))) (λ e. e) p (row_past s.strict_order n k start h) (refused_map (λ e. e) (λ e. e) (no_more k) r);
}

-- ---- a row of bytes that is read where it lies

pub reads_byte_row : {n : ℕ} {s t : ReaderState} {bytes : List ℕ} → length bytes ≡ n → ((i : ℕ) → get_or bytes i 0 < 256) → TakesPrefix (λ x. x ≡ bytes) s t → Decoded (List ℕ) (array n (unsigned 1)) s t bytes
reads_byte_row e fit p = record { took = (reads_bytes e fit p).took; made = λ k d h. tt }

pub denied_byte_row : {n : ℕ} {s t : ReaderState} {kind : ErrorKind} → ReadFails false false (λ x. length x ≡ n) s t kind → NotDecoded (List ℕ) (array n (unsigned 1)) s t kind
denied_byte_row {s = s} r = record { refused = refused_map (λ e. e) (λ e. e) (λ o none front rest e w. none front rest e (length-in_order s.strict_order front w.0 w.1.parts ∙ w.1.long)) r }
