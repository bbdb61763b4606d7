-- Codecs of keys, each with the equality and the order of its type.
use Rattle.std.proofs.Common.{◌≡◌, ℕ, ℤ, Bool, true, false, ◌&&◌, List, Option, Result, nat_eq, Some, None, refl, sym, subst, rules}
use Rattle.std.specs.Prelude.{Ok, Err}
use Rattle.std.specs.Bool.{Decides, beq, ⊤}
use Rattle.std.specs.Option.{option_eq, option_cmp}
use Rattle.std.specs.Result.{result_eq, result_cmp}
use Rattle.std.specs.Net.Addr.{ipv6_segments}
use Rattle.std.specs.declared.net.ipv6_addr.Ipv6Addr.{Ipv6Addr}
use Rattle.std.specs.Cmp.{IsTotalOrder, IsEquivalence, on_total, then_total, both_tied, nat_cmp_total, int_cmp_total, bool_cmp_total, unsigned_ties, eq_by_cmp_equiv}
use Rattle.std.specs.Cmp.Lexicographic.{pointwise, slice_cmp, lists_total, lists_ties, options_total, nat_list_cmp_total, texts_ties}
use Rattle.std.specs.declared.cmp.Ordering.{Ordering}
use Rattle.std.specs.declared.cmp.Ordering.TheVariants.{Equal}
use Rattle.std.specs.Ordering.{nat_cmp, int_cmp, int_eq, bool_cmp, ordering_then, is_eq}
use Rattle.borsh_codec.specs.Codec.{Codec}
use Rattle.borsh_codec.specs.Shapes.{contramap, unsigned, signed, unit, allocated, pair, array, length_prefixed, list}
use Rattle.borsh_codec.specs.Maps.{KeyLaw, btree_map, btree_set}
use Rattle.borsh_codec.specs.Types.Sums.{bool, option, result_of}
use Rattle.borsh_codec.specs.Types.Texts.{text}
use Rattle.borsh_codec.specs.Types.Addresses.{ipv6}
use Rattle.borsh_codec.proofs.Laws.Keys.{all_key, and_assoc, and_key, bare_key, bool_key, number_key, option_key, pair_key, result_key, signed_key, text_key, unit_key}
use Rattle.borsh_codec.proofs.Laws.AddressKeys.{segments_key}
use Rattle.borsh_codec.proofs.Laws.Maps.Types.{MatchesEq}

-- a codec with an equality and an order for which the same values differ
pub record OrderedCodec (A : Type 0) : Type 1 where
  pub codec : Codec A
  pub eq : A → A → Bool
  pub cmp : A → A → Ordering
  pub key : KeyLaw eq codec
  pub total : IsTotalOrder cmp
  pub matches : MatchesEq eq cmp

-- what a map asks of its keys; `o` says where it is found of a type that is known
pub record IsKey {K : Type 0} (o : OrderedCodec K) (cmp : K → K → Ordering) (eq : K → K → Bool) (c : Codec K) : Type 0 where
  pub key : KeyLaw eq c
  pub total : IsTotalOrder cmp
  pub matches : MatchesEq eq cmp

-- the same of a map by insertion, whose keys have no order
pub record IsIndexKey {K : Type 0} (o : OrderedCodec K) (eq : K → K → Bool) (c : Codec K) : Type 0 where
  pub key : KeyLaw eq c
  pub equivalence : IsEquivalence eq

pub is_key : {K : Type 0} {o : OrderedCodec K} → IsKey o o.cmp o.eq o.codec
is_key {o = o} = record { key = o.key; total = o.total; matches = o.matches }

pub is_index_key : {K : Type 0} {o : OrderedCodec K} → IsIndexKey o o.eq o.codec
is_index_key {o = o} = record { key = o.key; equivalence = subst IsEquivalence (λ i x y. sym (o.matches x y) i) (eq_by_cmp_equiv o.total) }

-- the premises of maps over keys whose type is known
pub ruleset key_facts = (is_key, is_index_key)

-- ---- one value

abbrev pub number_ordered : ℕ → OrderedCodec ℕ
number_ordered n = record { codec = unsigned n; eq = nat_eq; cmp = nat_cmp; key = number_key n; total = nat_cmp_total; matches = unsigned_ties }

abbrev pub signed_ordered : ℕ → OrderedCodec ℤ
signed_ordered n = record { codec = signed n; eq = int_eq; cmp = int_cmp; key = signed_key n; total = int_cmp_total; matches = λ a b. refl }

pub bool_ties : (a b : Bool) → beq a b ≡ is_eq (bool_cmp a b)
bool_ties true true = refl
bool_ties true false = refl
bool_ties false true = refl
bool_ties false false = refl

abbrev pub bool_ordered : OrderedCodec Bool
bool_ordered = record { codec = bool; eq = beq; cmp = bool_cmp; key = bool_key; total = bool_cmp_total; matches = bool_ties }

abbrev pub unit_ordered : OrderedCodec ⊤
unit_ordered = record {
  codec = unit;
  eq = λ a b. true;
  cmp = λ a b. Equal;
  key = unit_key;
  total = record { antisymm = λ a b. refl; trans = λ a b c h k. h; congr = λ a b c h. refl };
  matches = λ a b. refl;
}

-- bytes, and texts
abbrev pub text_ordered : OrderedCodec (List ℕ)
text_ordered = record { codec = text; eq = pointwise nat_eq; cmp = slice_cmp nat_cmp; key = text_key; total = nat_list_cmp_total; matches = texts_ties }

abbrev pub ipv6_ordered : OrderedCodec Ipv6Addr
ipv6_ordered = record {
  codec = ipv6;
  eq = λ a b. pointwise nat_eq (ipv6_segments a) (ipv6_segments b);
  cmp = λ a b. slice_cmp nat_cmp (ipv6_segments a) (ipv6_segments b);
  key = λ a b. segments_key (ipv6_segments a) (ipv6_segments b);
  total = on_total ipv6_segments nat_list_cmp_total;
  matches = λ a b. texts_ties (ipv6_segments a) (ipv6_segments b);
}

-- ---- of a part

abbrev pub contramap_ordered : {A B : Type 0} → (B → A) → OrderedCodec A → OrderedCodec B
contramap_ordered view o = record {
  codec = contramap view o.codec;
  eq = λ a b. o.eq (view a) (view b);
  cmp = λ a b. o.cmp (view a) (view b);
  key = λ a b. o.key (view a) (view b);
  total = on_total view o.total;
  matches = λ a b. o.matches (view a) (view b);
}

abbrev pub allocated_ordered : {A : Type 0} → OrderedCodec A → OrderedCodec A
allocated_ordered o = record o { codec = allocated o.codec }

pub option_ties : {A : Type 0} (E : A → A → Bool) (R : A → A → Ordering) → MatchesEq E R → MatchesEq (option_eq E) (option_cmp R)
option_ties E R m None None = refl
option_ties E R m None (Some b) = refl
option_ties E R m (Some a) None = refl
option_ties E R m (Some a) (Some b) = m a b

pub result_ties : {A B : Type 0} (E : A → A → Bool) (R : A → A → Ordering) (F : B → B → Bool) (S : B → B → Ordering) → MatchesEq E R → MatchesEq F S → MatchesEq (result_eq E F) (result_cmp R S)
result_ties E R F S m n (Ok a) (Ok b) = m a b
result_ties E R F S m n (Ok a) (Err b) = refl
result_ties E R F S m n (Err a) (Ok b) = refl
result_ties E R F S m n (Err a) (Err b) = n a b

abbrev pub option_ordered : {A : Type 0} → OrderedCodec A → OrderedCodec (Option A)
option_ordered o = record {
  codec = option o.codec;
  eq = option_eq o.eq;
  cmp = option_cmp o.cmp;
  key = option_key o.codec o.key;
  total = options_total o.total;
  matches = option_ties o.eq o.cmp o.matches;
}

pub results_total : {A B : Type 0} {R : A → A → Ordering} {S : B → B → Ordering} → IsTotalOrder R → IsTotalOrder S → IsTotalOrder (result_cmp R S)
results_total r s = search rules

abbrev pub result_ordered : {A E : Type 0} → OrderedCodec A → OrderedCodec E → OrderedCodec (Result A E)
result_ordered a e = record {
  codec = result_of a.codec e.codec;
  eq = result_eq a.eq e.eq;
  cmp = result_cmp a.cmp e.cmp;
  key = result_key a.codec e.codec a.key e.key;
  total = results_total a.total e.total;
  matches = result_ties a.eq a.cmp e.eq e.cmp a.matches e.matches;
}

-- ---- elements

abbrev pub length_prefixed_ordered : {A : Type 0} → OrderedCodec A → OrderedCodec (List A)
length_prefixed_ordered o = record {
  codec = length_prefixed o.codec;
  eq = pointwise o.eq;
  cmp = slice_cmp o.cmp;
  key = all_key o.codec o.key;
  total = lists_total o.total;
  matches = lists_ties o.cmp o.matches;
}

abbrev pub list_ordered : {A : Type 0} → OrderedCodec A → OrderedCodec (List A)
list_ordered o = record (length_prefixed_ordered o) { codec = list o.codec }

abbrev pub array_ordered : {A : Type 0} → ℕ → OrderedCodec A → OrderedCodec (List A)
array_ordered n o = record (length_prefixed_ordered o) { codec = array n o.codec }

-- ---- parts in order

abbrev pub pair_ordered : {A B : Type 0} → OrderedCodec A → OrderedCodec B → OrderedCodec (A × B)
pair_ordered a b = record {
  codec = pair a.codec b.codec;
  eq = λ x y. a.eq x.0 y.0 && b.eq x.1 y.1;
  cmp = λ x y. ordering_then (a.cmp x.0 y.0) (b.cmp x.1 y.1);
  key = pair_key a.codec b.codec a.key b.key;
  total = then_total (on_total (λ t. t.0) a.total) (on_total (λ t. t.1) b.total);
  matches = λ x y. both_tied _ _ (a.cmp x.0 y.0) (b.cmp x.1 y.1) (a.matches x.0 y.0) (b.matches x.1 y.1);
}

-- a tuple's first parts, before those that are still to come: their equality and order, and its codec once the rest has one
pub record OrderedParts (T : Type 0) : Type 1 where
  pub eq : T → T → Bool
  pub cmp : T → T → Ordering
  pub total : IsTotalOrder cmp
  pub matches : MatchesEq eq cmp
  pub before : {B : Type 0} → Codec B → (T → B) → Codec T
  pub key : {B : Type 0} {b : Bool} (d : Codec B) (g : T → B) (x y : T) → Decides b (d.equivalent (g x) (g y)) → Decides (eq x y && b) ((before d g).equivalent x y)

abbrev pub first_part : {T A : Type 0} → (T → A) → OrderedCodec A → OrderedParts T
first_part f o = record {
  eq = λ x y. o.eq (f x) (f y);
  cmp = λ x y. o.cmp (f x) (f y);
  total = on_total f o.total;
  matches = λ x y. o.matches (f x) (f y);
  before = λ d g. contramap (λ t. (f t, g t)) (pair o.codec d);
  key = λ d g x y h. and_key (o.key (f x) (f y)) h;
}

abbrev pub next_part : {T A : Type 0} → OrderedParts T → (T → A) → OrderedCodec A → OrderedParts T
next_part p f o = record {
  eq = λ x y. p.eq x y && o.eq (f x) (f y);
  cmp = λ x y. ordering_then (p.cmp x y) (o.cmp (f x) (f y));
  total = then_total p.total (on_total f o.total);
  matches = λ x y. both_tied _ _ (p.cmp x y) (o.cmp (f x) (f y)) (p.matches x y) (o.matches (f x) (f y));
  before = λ d g. p.before (pair o.codec d) (λ t. (f t, g t));
  key = λ {b = b} d g x y h. (
      let k = p.key (pair o.codec d) (λ t. (f t, g t)) x y (and_key (o.key (f x) (f y)) h) in
      subst (λ t. Decides t ((p.before (pair o.codec d) (λ t. (f t, g t))).equivalent x y)) (sym (and_assoc (p.eq x y) (o.eq (f x) (f y)) b)) k);
}

abbrev pub last_part : {T A : Type 0} → OrderedParts T → (T → A) → OrderedCodec A → OrderedCodec T
last_part p f o = record {
  codec = p.before o.codec f;
  eq = λ x y. p.eq x y && o.eq (f x) (f y);
  cmp = λ x y. ordering_then (p.cmp x y) (o.cmp (f x) (f y));
  key = λ x y. p.key o.codec f x y (o.key (f x) (f y));
  total = then_total p.total (on_total f o.total);
  matches = λ x y. both_tied _ _ (p.cmp x y) (o.cmp (f x) (f y)) (p.matches x y) (o.matches (f x) (f y));
}

-- ---- maps and sets that are keys

abbrev pub btree_map_ordered : {K V : Type 0} → (K → K → Ordering) → OrderedCodec K → OrderedCodec V → OrderedCodec (List (K × V))
btree_map_ordered cmp k v = record (list_ordered (pair_ordered k v)) { codec = btree_map cmp k.codec v.codec }

abbrev pub btree_set_ordered : {K : Type 0} → (K → K → Ordering) → OrderedCodec K → OrderedCodec (List K)
btree_set_ordered cmp k = record (list_ordered k) { codec = btree_set cmp k.codec; key = bare_key k.codec k.key }
