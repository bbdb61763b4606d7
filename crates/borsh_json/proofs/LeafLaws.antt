-- Values that are written whole: primitives, texts and lists of primitives.
use Rattle.std.proofs.{Common.{◌≡◌, inl, inr, ℕ, suc, zero, ◌+◌, ◌-◌, ◌/◌, ◌^◌, ◌<◌, ◌≤◌, List, [], ◌∷◌, ◌++◌, length, map, Bool, true, false, true≢false, Option, Some, refl, sym, ◌∙◌, ap, subst, arith, pow-suc, bytes_eq}, Math.Nat.{pow-le-pow_right}, lemmas.Bool.Decides.{nat_tests}}
use Rattle.std.specs.{Prelude.{⊤, ℤ, pos, negsuc, ◌&&◌, ◌==◌, if◌then◌else◌, codes, Result, Ok, Err, is_nan, from_bits}, Float.{Float as FloatValue, Format, binary32, binary64}, Fmt.{signed_decimal}, List.{AllByRecursion}}
use Rattle.json.specs.Token as token
use Rattle.json.specs.{Json.{Json, null, boolean, number, string}, Print.{IsNumber as IsNumberText}, Tree.{json_tokens, depth, HasNumbers}}
use Rattle.json.proofs.Printed.Decimals.{IsNumber-decimal, IsNumber-signed_decimal}
use Rattle.borsh_walks.specs.Container.{tag, little_endian}
use Rattle.borsh_values.specs.{Nodes.{Opens}, Tags.{number_of}}
use Rattle.borsh_plan.specs.declared.named.Named.{Named}
use Rattle.borsh_json.specs.{declared.error.Refusal.TheVariants.{Zero}, declared.error.WriteError.{WriteError}, declared.kinds.Kind.{Kind as Found}, declared.kinds.Kind.TheVariants.{Number, Bool as Truth, Bytes, Float}, declared.numbers.Number.{Number as NumberOf}, declared.output.LongNumbers.{LongNumbers}, declared.output.LongNumbers.TheVariants.{Plain, Quoted}, declared.output.Output.{Output}, Forms.{Form, primitive, sequence, tuple, choice, named, unnamed, no_fields, shape_of_form, shapes}, Found.{IsPrimitiveKind}, Integers.{IsEncoded}, Leaves.{Adds, HasSize, IsOpenedAs, IsWritten, RefusesValue, WritesHex, WritesLeaf, long_of, long_token}, NoJson.{IsNoJson, RefusesOwn}, Places.{IsKindOf}, Represents.{SaysFirst, HaveBytes}, Table.{Kind, no_bytes, truth, whole, float, float_size, raw, a_text, some_bytes, an_object, some_elements, nullable, by_name, number_types, number_kind, primitive_kind, DefinedKind, HasKind, InRange, IsFloat, IsHex, IsNumber, Part, Says}, Floats.{IsNan}}
use Rattle.borsh_json.proofs.{FloatLaws.{format_one}, FormKinds.{unnamed_is}, ReaderLaws.{uncons}, RepresentsLaws.{kind_one}, WrittenLaws.{IsFormed, next_written}}
use Rattle.borsh_walks.proofs.Laws.{length-tag}

-- ---- lists and bytes
pub front_one : (xs bs cs ds : List ℕ) → xs ++ bs ≡ cs ++ ds → length xs ≡ length cs → (xs ≡ cs) × (bs ≡ ds)
front_one [] bs [] ds e l = (refl, e)
front_one [] bs (c ∷ cs) ds e l = absurd (omega arith)
front_one (x ∷ xs) bs [] ds e l = absurd (omega arith)
front_one (x ∷ xs) bs (c ∷ cs) ds e l =
    let h : x ≡ c = cc in
    let t : xs ++ bs ≡ cs ++ ds = cc in
    let r = front_one xs bs cs ds t (omega arith) in
    (ap (λ y. y ∷ xs) h ∙ ap (λ ys. c ∷ ys) r.0, r.1)

value_low : (w n : ℕ) → n < 256 ^ w → number_of (little_endian w n) ≡ n
value_low zero n h = omega arith
value_low (suc w) n h =
    let p = pow-suc 256 w in
    let r = value_low w (n / 256) (omega (arith, h, p)) in
    omega (arith, r)

pub tag_one : (w k m : ℕ) → k < 256 ^ w → m < 256 ^ w → tag w (pos k) ≡ tag w (pos m) → k ≡ m
tag_one w k m h l e = sym (value_low w k h) ∙ ap (λ l. number_of l) e ∙ value_low w m l

-- a number and its complement add up to all bits
value_turned : (w m : ℕ) → m < 256 ^ w → number_of (map (λ b. 255 - b) (little_endian w m)) + m + 1 ≡ 256 ^ w
value_turned zero m h = omega arith
value_turned (suc w) m h =
    let p = pow-suc 256 w in
    let r = value_turned w (m / 256) (omega (arith, h, p)) in
    omega (arith, r, p)

-- of a number of some bytes only 0 has those of 0
not_zero : (n : ℕ) (signed : Bool) (z : ℤ) → 1 ≤ n → InRange n signed z → tag n z ≡ tag n (pos 0) → z ≡ pos 0
not_zero zero signed z h r e = absurd (omega arith)
not_zero (suc n) false (pos m) h r e = ap pos (tag_one (suc n) m 0 r (omega arith) e)
not_zero (suc n) true (pos m) h r e = ap pos (tag_one (suc n) m 0 (omega arith) (omega arith) e)
not_zero (suc n) false (negsuc m) h r e = absurd r
not_zero (suc n) true (negsuc m) h r e =
    let p = pow-suc 256 n in
    let t = value_turned (suc n) m (omega arith) in
    let o = ap (λ l. number_of l) e ∙ value_low (suc n) 0 (omega arith) in
    absurd (omega (arith, r, p, t, o))

power_8 : (n : ℕ) → n ≤ 8 → 256 ^ n ≤ 2 ^ 64
power_8 n h = omega (arith, pow-le-pow_right {n = 256} (omega arith) h)

pub printable : (n : ℕ) (signed : Bool) (z : ℤ) → n ≤ 8 → InRange n signed z → IsNumberText (signed_decimal z)
printable n false (pos m) h r = let p = power_8 n h in IsNumber-decimal m (omega arith)
printable n false (negsuc m) h r = absurd r
printable n true (pos m) h r = let p = power_8 n h in IsNumber-decimal m (omega arith)
printable n true (negsuc m) h r = let p = power_8 n h in IsNumber-signed_decimal (negsuc m) (omega arith)

-- ---- sizes of primitives
sized_if : (b : Bool) (k l : Kind) (n : ℕ) → (b ≡ true → HasSize k n) → HasSize l n → HasSize (if b then k else l) n
sized_if true k l n p q = p refl
sized_if false k l n p q = q

and_right : (a b : Bool) → (a && b) ≡ true → b ≡ true
and_right true b e = e
and_right false b e = cc

same_size : (a : Bool) (m n : ℕ) → (a && (m == n)) ≡ true → n ≡ m
same_size a m n e = let h = and_right a (m == n) e in let g : m ≡ n = grind (arith, nat_tests) in sym g

number_sized : (ts : List (List ℕ × ℕ × Bool × Bool)) (x : List ℕ) (n : ℕ) → AllByRecursion (λ (t : List ℕ × ℕ × Bool × Bool). (1 ≤ t.1) × (t.1 ≤ 16) × (4 < t.1 → 8 ≤ t.1)) ts → HasSize (number_kind ts x n) n
number_sized [] x n h = refl
number_sized (t ∷ ts) x n h = sized_if (bytes_eq x t.0 && (t.1 == n)) (whole t.1 t.2 t.3) (number_kind ts x n) n (λ e. (same_size (bytes_eq x t.0) t.1 n e, h.0.0, h.0.1, h.0.2)) (number_sized ts x n h.1)

pub primitive_sized : (x : List ℕ) (n : ℕ) → HasSize (primitive_kind x n) n
primitive_sized x n =
    let others = number_sized number_types x n (omega arith) in
    let doubles = sized_if (bytes_eq x (codes "f64") && (n == 8)) (float binary64) (number_kind number_types x n) n (λ e. sym (same_size (bytes_eq x (codes "f64")) n 8 e)) others in
    let floats = sized_if (bytes_eq x (codes "f32") && (n == 4)) (float binary32) _ n (λ e. sym (same_size (bytes_eq x (codes "f32")) n 4 e)) doubles in
    sized_if (bytes_eq x (codes "bool") && (n == 1)) truth _ n (λ e. sym (same_size (bytes_eq x (codes "bool")) n 1 e)) floats

-- ---- tokens
module _ (F : List ℕ → Option Form) (x own : List ℕ) (old new : Output) where
  wrote : (n : ℕ) (j : Json) → Adds (json_tokens j) old new → HasNumbers j → depth j ≤ n → (s : SaysFirst F x j own []) → IsFormed (long_of old) s.0 j → WritesLeaf F n x own old new
  wrote n j a h d s f = record { json = j; adds = a; numbers = h; nests = d; says = λ ps bs r. next_written F s.0 own [] s.1 s.2 f r }

  pub put_null : Adds (token.null ∷ []) old new → SaysFirst F x null own [] → WritesLeaf F 0 x own old new
  put_null a s = wrote 0 null a tt (omega arith) s (λ e t q. cc)

  pub put_string : (s : List ℕ) → Adds (token.string s ∷ []) old new → SaysFirst F x (string s) own [] → WritesLeaf F 0 x own old new
  put_string s a says = wrote 0 (string s) a tt (omega arith) says (λ e t q. cc)

  pub put_boolean : (b : Bool) → Adds (token.boolean b ∷ []) old new → SaysFirst F x (boolean b) own [] → WritesLeaf F 0 x own old new
  put_boolean b a s = wrote 0 (boolean b) a tt (omega arith) s (λ e t q. cc)

  pub put_digits : (s : List ℕ) → Adds (token.number s ∷ []) old new → IsNumberText s → (says : SaysFirst F x (number s) own []) → IsFormed (long_of old) says.0 (number s) → WritesLeaf F 0 x own old new
  put_digits s a h says f = wrote 0 (number s) a h (omega arith) says f

-- bytes in hexadecimal
pub put_hex : (F : List ℕ → Option Form) (x own bytes : List ℕ) (old new : Output) (r : Result Unit WriteError) → WritesHex bytes old new r → ((j : Json) → IsHex j bytes → SaysFirst F x j own []) → IsWritten F 0 x own old new r
put_hex F x own bytes old new (Ok u) w f = put_string F x own old new w.0 w.1 (f (string w.0) w.2)
put_hex F x own bytes old new (Err e) w f = subst (λ (e : WriteError). RefusesValue F x own e) (sym w) tt

-- ---- what no JSON says
module _ (F : List ℕ → Option Form) (x own : List ℕ) (kind : Kind) (h : HasKind F x kind) where
  pub no_json : ((j : Json) (a : List ℕ) (qs : List Part) (bs cs : List ℕ) → Says F kind j a qs → own ++ bs ≡ a ++ cs → (ps : List Part) → HaveBytes F (qs ++ ps) cs → ⊥) → IsNoJson F x own
  no_json d = λ j ps bs r.
      let u = uncons F r in
      let f = u.4 in
      d j u.0 u.1 bs u.2 (subst (λ k. Says F k j u.0 u.1) (kind_one F f.1 h) f.2) u.3 ps u.5

  -- where all own bytes are of one length
  pub no_leaf : ((j : Json) (a : List ℕ) (qs : List Part) → Says F kind j a qs → length own ≡ length a) → ((j : Json) (qs : List Part) → Says F kind j own qs → ⊥) → IsNoJson F x own
  no_leaf l d = no_json (λ j a qs bs cs s e ps r. d j qs (subst (λ a. Says F kind j a qs) (sym (front_one own bs a cs e (l j a qs s)).0) s))

-- how many bytes a float has, and that they are no NaN's
pub float_length : (f : Format) (v : FloatValue) (a : List ℕ) → IsFloat f v a → length a ≡ float_size f
float_length f v a p = ap (λ l. length l) p.1 ∙ length-tag (float_size f) (pos p.0)

nan_or_float : (f : Format) (v : FloatValue) (a : List ℕ) → IsNan f a → IsFloat f v a → ⊥
nan_or_float f v a n p =
    let e = tag_one (float_size f) n.0 p.0 n.2 p.2 (sym n.1 ∙ p.1) in
    true≢false (sym n.3 ∙ ap (λ b. is_nan (from_bits f b)) e ∙ ap (λ v. is_nan v) p.3 ∙ p.4)

module _ (F : List ℕ → Option Form) (x own : List ℕ) where
  pub no_bool : HasKind F x truth → length own ≡ 1 → (own ≡ 0 ∷ [] → ⊥) → (own ≡ 1 ∷ [] → ⊥) → IsNoJson F x own
  no_bool h l p q = no_leaf F x own truth h (λ j a qs s. l ∙ sym (ap (λ l. length l) s.2)) (λ j qs s. each s.0 s.2)
    where
      each : (b : Bool) → own ≡ (if b then 1 else 0) ∷ [] → ⊥
      each true e = q e
      each false e = p e

  pub no_zero : (n : ℕ) (signed non_zero : Bool) → HasKind F x (whole n signed non_zero) → non_zero ≡ true → HasSize (whole n signed non_zero) (length own) → own ≡ tag n (pos 0) → IsNoJson F x own
  no_zero n signed non_zero h t l e = no_leaf F x own (whole n signed non_zero) h (λ j a qs s. let w = s.2 in l.0 ∙ sym (ap (λ l. length l) w.2 ∙ length-tag n w.0)) (λ j qs s. let w = s.2 in w.4 t (not_zero n signed w.0 l.1 w.3 (sym w.2 ∙ e)))

  pub no_nan : (f : Format) → HasKind F x (float f) → length own ≡ float_size f → IsNan f own → IsNoJson F x own
  no_nan f h l n = no_leaf F x own (float f) h (λ j a qs s. l ∙ sym (float_length f s.0 a s.2)) (λ j qs s. nan_or_float f s.0 own n s.2)

  pub says_bool : (b : Bool) → HasKind F x truth → own ≡ (if b then 1 else 0) ∷ [] → SaysFirst F x (boolean b) own []
  says_bool b h e = (truth, h, (b, refl, e, refl))

  pub says_number : (n : ℕ) (signed non_zero : Bool) (s : List ℕ) (z : ℤ) (j : Json) → HasKind F x (whole n signed non_zero) → IsEncoded n signed z own → (non_zero ≡ true → z ≡ pos 0 → ⊥) → s ≡ signed_decimal z → IsNumber n s j → SaysFirst F x j own []
  says_number n signed non_zero s z j h e f t i = (whole n signed non_zero, h, (s, i, (z, t, e.0, e.1, f), refl))

-- other bytes
pub raw_hex : (F : List ℕ → Option Form) (x own : List ℕ) (old new : Output) (n : ℕ) (k : Kind) (r : Result Unit WriteError) → k ≡ raw n → HasKind F x k → HasSize k (length own) → WritesHex own old new r → IsWritten F 0 x own old new r
raw_hex F x own old new n k r e h l w = put_hex F x own own old new r w (λ j i. (raw n, subst (λ k. HasKind F x k) e h, (i, subst (λ k. HasSize k (length own)) e l, refl)))

-- a number that was decoded
module _ (F : List ℕ → Option Form) (x own : List ℕ) (old new : Output) (n : ℕ) (signed non_zero : Bool) (z : ℤ) (h : HasKind F x (whole n signed non_zero)) (l : HasSize (whole n signed non_zero) (length own)) (e : length own ≤ 16 → IsEncoded (length own) signed z own) where
  pub number_there : IsEncoded n signed z own
  number_there = subst (λ n. IsEncoded n signed z own) l.0 (e (omega (arith, l.0, l.2)))

  pub number_zero : non_zero ≡ true → z ≡ pos 0 → RefusesOwn F Zero x own
  number_zero t q = ((n, signed, subst (λ b. HasKind F x (whole n signed b)) t h), no_zero F x own n signed non_zero h t l (number_there.0 ∙ ap (λ z. tag n z) q))

  pub number_string : (s : List ℕ) → (non_zero ≡ true → z ≡ pos 0 → ⊥) → s ≡ signed_decimal z → 8 ≤ length own → Adds (token.string s ∷ []) old new → WritesLeaf F 0 x own old new
  number_string s f t b a = put_string F x own old new s a (says_number F x own n signed non_zero s z (string s) h number_there f t (inr (omega (arith, l.0, b), refl)))

  pub number_plain : (s : List ℕ) → (non_zero ≡ true → z ≡ pos 0 → ⊥) → s ≡ signed_decimal z → length own ≤ 8 → (long_of old ≡ Quoted → length own < 8) → IsNumberText s → Adds (token.number s ∷ []) old new → WritesLeaf F 0 x own old new
  number_plain s f t b q p a =
      put_digits F x own old new s a p (whole n signed non_zero, h, (s, inl (omega (arith, l.0, b), refl), (z, t, number_there.0, number_there.1, f), refl))
      (λ e u i. ((λ c d w. (let v : whole n signed non_zero ≡ whole 8 c d = w in let size : n ≡ 8 = cc in let less = q e in omega (arith, l.0, less, size))), (λ g w. (let v : whole n signed non_zero ≡ float g = w in cc))))

  -- of 64 bits
  pub number_long : (s : List ℕ) → (non_zero ≡ true → z ≡ pos 0 → ⊥) → s ≡ signed_decimal z → length own ≡ 8 → IsNumberText s → (long : LongNumbers) → long_of old ≡ long → Adds (long_token long s ∷ []) old new → WritesLeaf F 0 x own old new
  number_long s f t b p Plain e a = number_plain s f t (omega (arith, b)) (λ q. (let c : Plain ≡ Quoted = sym e ∙ q in cc)) p a
  number_long s f t b p Quoted e a = number_string s f t (omega (arith, b)) a

-- ---- definitions by what was found of them
-- the kinds of primitives
abbrev pub IsBare : Kind → Type 0
IsBare truth = ⊤
IsBare (whole n signed non_zero) = ⊤
IsBare (float g) = ⊤
IsBare (raw n) = ⊤
IsBare kind = ⊥

pub bare : (kind : Found) (k : Kind) → IsPrimitiveKind kind k → IsBare k
bare (Number n) k e = subst IsBare (sym e) tt
bare Truth k e = subst IsBare (sym e) tt
bare (Bytes n) k e = subst IsBare (sym e) tt
bare (Float n) k e = subst IsBare (sym e.2) tt
bare kind k e = absurd e

-- the other kinds of primitives than numbers, `bool` and floats
pub raw_kind : (kind : Found) (k : Kind) → IsPrimitiveKind kind k → ((n : NumberOf) → kind ≡ Number n → ⊥) → (kind ≡ Truth → ⊥) → ((n : ℕ) → kind ≡ Float n → ⊥) → (n : ℕ) × (k ≡ raw n)
raw_kind (Number n) k e f g h = absurd (f n refl)
raw_kind Truth k e f g h = absurd (g refl)
raw_kind (Bytes n) k e f g h = (n, e)
raw_kind (Float n) k e f g h = absurd (h n refl)
raw_kind kind k e f g h = absurd e

module _ (F : List ℕ → Option Form) (ns : List Named) (x : List ℕ) where
  -- the definition tells the kind
  pub defined : (f : Form) (k : Kind) → F x ≡ Some f → (k ≡ no_bytes → ⊥) → HasKind F x k → DefinedKind F x f k
  defined f k e n (inl p) = absurd (n p.1)
  defined f k e n (inr p) =
      let g : Some p.1 ≡ Some f = sym p.2 ∙ e in
      let d : p.1 ≡ f = cc in
      subst (λ f. DefinedKind F x f k) d p.3

  -- the kind that was found of a primitive is its own
  pub found_kind : (f : Form) (kind : Found) (k : Kind) → IsPrimitiveKind kind k → IsKindOf F ns x f kind → HasKind F x k
  found_kind f (Number n) k e h = subst (λ k. HasKind F x k) (sym e) h
  found_kind f Truth k e h = subst (λ k. HasKind F x k) (sym e) h
  found_kind f (Bytes n) k e h = subst (λ k. HasKind F x k) (sym e) h
  found_kind f (Float n) k e h = subst (λ k. HasKind F x k) (ap (λ g. float g) (format_one n h.0 e.0 h.1 e.1) ∙ sym e.2) h.2
  found_kind f kind k e h = absurd e

  bare_form : (k : Kind) (f : Form) (own : List ℕ) (parts : List (List ℕ)) → DefinedKind F x f k → IsBare k → Opens (shapes F) (shape_of_form f) own parts → (parts ≡ []) × HasSize k (length own)
  bare_form k (primitive n) own parts d b o = (o.2, subst (λ (k : Kind). HasSize k (length own)) (sym d) (subst (λ m. HasSize (primitive_kind x n) m) (sym o.0) (primitive_sized x n)))
  bare_form k (sequence w lo hi e) own parts (a_text t c) b o = absurd b
  bare_form k (sequence w lo hi e) own parts (some_bytes t c) b o = absurd b
  bare_form k (sequence w lo hi e) own parts (an_object t c) b o = absurd b
  bare_form k (sequence w lo hi e) own parts (some_elements t c u v) b o = absurd b
  bare_form k (tuple ps) own parts d b o = absurd (subst IsBare d b)
  bare_form k (choice w vs) own parts (nullable t) b o = absurd b
  bare_form k (choice w vs) own parts (by_name t) b o = absurd b
  bare_form k (named fs) own parts d b o = absurd (subst IsBare d b)
  bare_form k (unnamed ps) own parts d b o = absurd (unnamed_is (λ k. IsBare k → ⊥) (λ xs b. b) (λ y b. b) ps (subst IsBare d b))
  bare_form k no_fields own parts d b o = absurd (subst IsBare d b)

  -- the own bytes of a primitive, which has no parts
  pub bare_opened : (f : Form) (k : Kind) (own : List ℕ) (parts : List (List ℕ)) → IsOpenedAs F x f own parts → IsBare k → HasKind F x k → (parts ≡ []) × HasSize k (length own)
  bare_opened f k own parts o b h = bare_form k f own parts (defined f k o.0 (λ e. subst IsBare e b) h) b o.1
