-- How the encodings of a shape are described, proved once for every part.
use Rattle.std.proofs.Common.{◌≡◌, ℕ, zero, suc, ℤ, pos, negsuc, ◌-◌, ◌/◌, ◌%◌, ◌^◌, ◌<◌, cond, nat_lt, nat_eq, eqb-true, ltb-true, Bool, true, false, List, [], ◌∷◌, ◌++◌, length, replicate, Option, Some, None, ◌⊎◌, refl, sym, ◌∙◌, ap, subst, inl, inr, append-nil, arith}
use Rattle.std.specs.Prelude.{All, ⊤}
use Rattle.std.proofs.lemmas.Option.{cond_some}
use Rattle.borsh_codec.specs.Codec.{Codec}
use Rattle.borsh_codec.specs.Shapes.{contramap, little_endian, unsigned_encoding, unsigned, sign_bound, signed_encoding, signed, unit, never, pair, behind_tag, either, variant, concat_encodings, array, length_prefixed, list, refused_if, filtered, allocated, decoded_with}
use Rattle.borsh_codec.specs.Maps.{sorted_by_key, ascends, btree_entries, hash_entries}
use Rattle.std.specs.declared.cmp.Ordering.{Ordering}
use Rattle.std.specs.Map.{keys_of}
use Rattle.borsh_codec.specs.Types.Sums.{bool}
use Rattle.borsh_codec.specs.Types.Floats.{is_number, float}
use Rattle.borsh_codec.specs.Types.Texts.{text}
use lib.Ieee.{Float, Format, to_bits}
use Rattle.std.specs.Str.{is_utf8}
use Rattle.borsh_codec.proofs.Laws.Exact.{allowed_some, passed_some}
use Rattle.borsh_codec.proofs.Laws.Lists.{some_same, joined_some}
use Rattle.borsh_codec.proofs.Laws.Numbers.{number_some, length-little}
use Rattle.borsh_codec.proofs.Laws.Variants.{behind_some}
use Rattle.borsh_walks.specs.Container.{Shape, primitive, sequence, product, choice, Member, of_primitive, of_sequence, of_parts, of_choice, Members, no_members, more_members, IsListedVariant, tag}
use Rattle.borsh_definitions.specs.Language.{Describes, DescribesAll, IsOfVariant, DescribesChoice}

-- ---- bytes

abbrev AreBytes : List ℕ → Type 0
AreBytes x = All (λ b. b < 256) x

no_bytes : AreBytes []
no_bytes k d h = absurd (omega arith)

more_bytes : (b : ℕ) (x : List ℕ) → b < 256 → AreBytes x → AreBytes (b ∷ x)
more_bytes b x h t zero d l = h
more_bytes b x h t (suc k) d l = t k d (omega arith)

little_bytes : (n x : ℕ) → AreBytes (little_endian n x)
little_bytes zero x = no_bytes
little_bytes (suc n) x = more_bytes (x % 256) (little_endian n (x / 256)) (omega arith) (little_bytes n (x / 256))

-- the bytes of some number
record IsLittle (n : ℕ) (x : List ℕ) : Type 0 where
  from : ℕ
  is : little_endian n from ≡ x

signed_little : (n : ℕ) (z : ℤ) (x : List ℕ) → signed_encoding n z ≡ Some x → IsLittle n x
unfolding signed_encoding
signed_little n (pos k) x e = record { from = k; is = (cond_some (nat_lt k (sign_bound n)) (little_endian n k) x e).1 }
signed_little n (negsuc k) x e = record { from = 256 ^ n - suc k; is = (cond_some (nat_lt k (sign_bound n)) (little_endian n (256 ^ n - suc k)) x e).1 }

-- a row has its length, and the bytes of its elements
cond_row : (i k : ℕ) (o : Option (List ℕ)) (x : List ℕ) → cond (nat_eq i k) o None ≡ Some x → (i ≡ k) × (o ≡ Some x)
cond_row i k o x e = elim (nat_eq i k) as (λ b. nat_eq i k ≡ b → cond b o None ≡ Some x → (i ≡ k) × (o ≡ Some x)) [
  | true ↦ λ t f. (eqb-true i k t, f)
  | false ↦ λ t f. absurd (cc)
] refl e

-- a tag of one byte
tag_byte : (k : ℕ) → nat_lt k 256 ≡ true → tag 1 (pos k) ≡ k ∷ []
tag_byte k h =
    let l : k < 256 = ltb-true k 256 h in
    let e : k % 256 ≡ k = omega arith in
    ap (λ b. b ∷ []) e

module _ {C : List ℕ → Option Shape} where
  little_member : {m : List ℕ} (n k : ℕ) (x : List ℕ) → C m ≡ Some (primitive n) → little_endian n k ≡ x → Member C m x
  little_member n k x h e =
      let l : n ≡ length x = sym (length-little n k) ∙ ap length e in
      of_primitive (h ∙ ap (λ i. Some (primitive i)) l) (subst AreBytes e (little_bytes n k))

  -- ---- one shape

  pub describes_contramap : {A B : Type 0} {m : List ℕ} (view : B → A) {c : Codec A} → Describes A C c m → Describes B C (contramap view c) m
  describes_contramap view d = record { member = λ b x e. d.member (view b) x e }

  pub describes_decoded_with : {A : Type 0} {m : List ℕ} (P : A → Type 0) {c : Codec A} → Describes A C c m → Describes A C (decoded_with P c) m
  describes_decoded_with P d = record { member = d.member }

  pub describes_number : {m : List ℕ} (n : ℕ) → C m ≡ Some (primitive n) → Describes ℕ C (unsigned n) m
  describes_number n h = record { member = λ a x e. little_member n a x h (number_some n a x e).1 }

  pub describes_signed : {m : List ℕ} (n : ℕ) → C m ≡ Some (primitive n) → Describes ℤ C (signed n) m
  describes_signed n h = record { member = λ a x e. (let l = signed_little n a x e in little_member n l.from x h l.is) }

  nil_member : {m : List ℕ} (x : List ℕ) → C m ≡ Some (primitive 0) → [] ≡ x → Member C m x
  nil_member x h e = of_primitive (h ∙ ap (λ l. Some (primitive (length l))) e) (subst AreBytes e no_bytes)

  pub describes_unit : {m : List ℕ} → C m ≡ Some (primitive 0) → Describes ⊤ C unit m
  describes_unit h = record { member = λ a x e. nil_member x h (some_same [] x e) }

  pub describes_filtered : {A : Type 0} {m : List ℕ} (texts : Bool) (test : A → Bool) {c : Codec A} → Describes A C c m → Describes A C (filtered texts test c) m
  describes_filtered texts test {c = c} d = record { member = λ a x e. d.member a x (passed_some (test a) (c.encoding a) x e).is }

  pub describes_float : {m : List ℕ} (f : Format) (n : ℕ) → C m ≡ Some (primitive n) → Describes Float C (float f n) m
  describes_float f n h = describes_contramap (to_bits f) (describes_filtered false (is_number f) (describes_number n h))

  pub describes_refused_if : {A : Type 0} {m : List ℕ} (refused : Bool) {c : Codec A} → Describes A C c m → Describes A C (refused_if refused c) m
  describes_refused_if refused {c = c} d = record { member = λ a x e. d.member a x (allowed_some refused (c.encoding a) x e).is }

  pub describes_stored : {A : Type 0} {m : List ℕ} {c : Codec A} → Describes A C c m → Describes A C (allocated c) m
  describes_stored d = record { member = d.member }

  byte_member : {m : List ℕ} (b : ℕ) (x : List ℕ) → b < 256 → C m ≡ Some (primitive 1) → Some (b ∷ []) ≡ Some x → Member C m x
  byte_member {m = m} b x l h e = subst (Member C m) (some_same (b ∷ []) x e) (of_primitive h (more_bytes b [] l no_bytes))

  bool_member : {m : List ℕ} (b : Bool) (x : List ℕ) → C m ≡ Some (primitive 1) → bool.encoding b ≡ Some x → Member C m x
  bool_member false x h e = byte_member 0 x (omega arith) h e
  bool_member true x h e = byte_member 1 x (omega arith) h e

  -- a truth value is one byte
  pub describes_bool : {m : List ℕ} → C m ≡ Some (primitive 1) → Describes Bool C bool m
  describes_bool h = record { member = λ b x e. bool_member b x h e }

  -- ---- parts in order

  pub all_none : DescribesAll ⊤ C unit []
  all_none = record { members = λ a x e. subst (Members C []) (some_same [] x e) no_members }

  pub all_one : {A : Type 0} {m : List ℕ} {c : Codec A} → Describes A C c m → DescribesAll A C c (m ∷ [])
  all_one {m = m} d = record { members = λ a x e. subst (Members C (m ∷ [])) (append-nil x) (more_members (d.member a x e) no_members) }

  pub all_more : {A B : Type 0} {m : List ℕ} {ms : List (List ℕ)} {a : Codec A} {b : Codec B} → Describes A C a m → DescribesAll B C b ms → DescribesAll (A × B) C (pair a b) (m ∷ ms)
  all_more {m = m} {ms = ms} {a = a} {b = b} d e = record {
    members = λ v x f. (let p = joined_some (a.encoding v.0) (b.encoding v.1) x f in
        subst (Members C (m ∷ ms)) (sym p.whole) (more_members (d.member v.0 p.first p.left) (e.members v.1 p.second p.right)));
  }

  pub all_contramap : {A B : Type 0} {ms : List (List ℕ)} (view : B → A) {c : Codec A} → DescribesAll A C c ms → DescribesAll B C (contramap view c) ms
  all_contramap view d = record { members = λ b x e. d.members (view b) x e }

  pub describes_parts : {A : Type 0} {m : List ℕ} {ms : List (List ℕ)} {c : Codec A} → C m ≡ Some (product ms) → DescribesAll A C c ms → Describes A C c m
  describes_parts h d = record { member = λ a x e. of_parts h (d.members a x e) }

  -- ---- a tag and a part

  pub choice_none : {w : ℕ} {vs : List (ℤ × List ℕ)} → DescribesChoice ⊥ C never w vs
  choice_none = record { one = λ a x e. absurd a }

  -- a value behind a tag of one byte
  pub choice_tag : {A : Type 0} {m : List ℕ} {k : ℕ} {vs : List (ℤ × List ℕ)} {a : Codec A} → IsListedVariant (pos k) m vs → nat_lt k 256 ≡ true → Describes A C a m → DescribesChoice A C (behind_tag k a) 1 vs
  choice_tag {m = m} {k = k} {a = a} l t d = record {
    one = λ v x f. (let p = behind_some k (a.encoding v) x f in
        record { discriminant = pos k; variant = m; part = p.part; listed = l; whole = ap (λ y. y ++ p.part) (tag_byte k t) ∙ sym p.whole; member = d.member v p.part p.is });
  }

  module _ {A B : Type 0} {a : Codec A} {b : Codec B} {vs : List (ℤ × List ℕ)} (d : DescribesChoice A C a 1 vs) (e : DescribesChoice B C b 1 vs) where
    either_one : (v : A ⊎ B) (x : List ℕ) → (either a b).encoding v ≡ Some x → IsOfVariant C 1 vs x
    either_one (inl v) x h = d.one v x h
    either_one (inr v) x h = e.one v x h

    -- a value of one of two
    pub choice_either : DescribesChoice (A ⊎ B) C (either a b) 1 vs
    choice_either = record { one = either_one }

  -- the first variant, whose tag is one byte, and the others
  pub choice_more : {A B : Type 0} {m : List ℕ} {k : ℕ} {vs : List (ℤ × List ℕ)} {a : Codec A} {b : Codec B} → IsListedVariant (pos k) m vs → nat_lt k 256 ≡ true → Describes A C a m → DescribesChoice B C b 1 vs
      → DescribesChoice (A ⊎ B) C (variant k a b) 1 vs
  choice_more l t d e = choice_either (choice_tag l t d) e

  pub describes_choice : {A : Type 0} {m : List ℕ} {w : ℕ} {vs : List (ℤ × List ℕ)} {c : Codec A} → C m ≡ Some (choice w vs) → DescribesChoice A C c w vs → Describes A C c m
  describes_choice {m = m} h d = record {
    member = λ a x e. (let v = d.one a x e in subst (Member C m) v.whole (of_choice h v.listed v.member));
  }

  -- ---- elements

  joined_members : {A : Type 0} {m : List ℕ} {c : Codec A} → Describes A C c m → (xs : List A) (x : List ℕ) → concat_encodings c.encoding xs ≡ Some x → Members C (replicate (length xs) m) x
  joined_members {m = m} d [] x e = subst (Members C []) (some_same [] x e) no_members
  joined_members {m = m} {c = c} d (a ∷ xs) x e =
      let p = joined_some (c.encoding a) (concat_encodings c.encoding xs) x e in
      subst (Members C (m ∷ replicate (length xs) m)) (sym p.whole) (more_members (d.member a p.first p.left) (joined_members d xs p.second p.right))

  -- elements behind a count of four bytes
  pub describes_counted : {A : Type 0} {m n : List ℕ} {c : Codec A} → C n ≡ Some (sequence 4 0 4294967295 m) → Describes A C c m → Describes (List A) C (length_prefixed c) n
  describes_counted {n = n} {c = c} h d = record {
    member = λ xs x e. (let p = joined_some (unsigned_encoding 4 (length xs)) (concat_encodings c.encoding xs) x e in
        let k = number_some 4 (length xs) p.first p.left in
        let t : tag 4 (pos (length xs)) ≡ p.first = k.1 in
        let f = k.0 in
        subst (Member C n) (ap (λ y. y ++ p.second) t ∙ sym p.whole) (of_sequence (length xs) h (omega arith) (omega arith) (joined_members d xs p.second p.right)));
  }

  -- the same, where elements without bytes are refused
  pub describes_elements : {A : Type 0} {m n : List ℕ} {c : Codec A} → C n ≡ Some (sequence 4 0 4294967295 m) → Describes A C c m → Describes (List A) C (list c) n
  describes_elements {c = c} h d = describes_refused_if c.is_zero_width (describes_counted h d)

  -- elements without a count
  pub describes_row : {A : Type 0} {m n : List ℕ} (k : ℕ) {c : Codec A} → C n ≡ Some (sequence 0 k k m) → Describes A C c m → Describes (List A) C (array k c) n
  describes_row {m = m} {n = n} k {c = c} h d = record {
    member = λ xs x e. (let p = cond_row (length xs) k (concat_encodings c.encoding xs) x e in
        of_sequence k h (omega arith) (omega arith) (subst (λ i. Members C (replicate i m) x) p.0 (joined_members d xs x p.1)));
  }

  -- a text, which is a list of bytes
  pub describes_text : {m n : List ℕ} → C n ≡ Some (sequence 4 0 4294967295 m) → C m ≡ Some (primitive 1) → Describes (List ℕ) C text n
  describes_text h b = describes_filtered true is_utf8 (describes_counted h (describes_number 1 b))

  -- ---- entries of maps

  -- entries by ascending key
  pub describes_ordered : {K V : Type 0} {m n : List ℕ} (cmp : K → K → Ordering) {item : Codec (K × V)} → C n ≡ Some (sequence 4 0 4294967295 m) → Describes (K × V) C item m → Describes (List (K × V)) C (btree_entries cmp item) n
  describes_ordered cmp {item = item} h d = record {
    member = λ es x e. (describes_counted h d).member es x (passed_some (ascends cmp (keys_of es)) ((length_prefixed item).encoding es) x e).is;
  }

  -- entries that are written by ascending key
  pub describes_sorted : {K V : Type 0} {m n : List ℕ} (cmp : K → K → Ordering) (S : V → V → Type 0) {item : Codec (K × V)} → C n ≡ Some (sequence 4 0 4294967295 m) → Describes (K × V) C item m → Describes (List (K × V)) C (hash_entries cmp S item) n
  describes_sorted cmp S h d = record { member = λ es x e. (describes_counted h d).member (sorted_by_key cmp es) x e }
