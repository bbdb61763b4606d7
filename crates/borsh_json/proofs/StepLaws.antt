-- What the reader's steps do to what is left of a place.
use Rattle.std.proofs.Common.{◌≡◌, ℕ, List, [], ◌∷◌, length, false, Some, refl, sym, ◌∙◌, ap, arith, IsSome, option_map, bytes_eq}
use Rattle.std.specs.List.{list_any}
use Rattle.json.specs.{Json.{Json, Items, no_items, item, Members}, Find.{get_member}}
use Rattle.borsh_json.specs.{declared.kinds.KeyKind.{KeyKind}, declared.kinds.KeyKind.TheVariants.{Text as TextKeys, Number as NumberKeys}, declared.sources.Source.{Source}, declared.sources.Source.TheVariants.{One, Items as TheItems, Members as TheMembers, Entries as InPlace, Texts, Ranks}, Frames.{Wanted, HasItems, HasFields, HasEntries, NoneLeft, IsLeft}, Table.{Part, row_parts, Entry}}
use Rattle.borsh_json.proofs.ReaderLaws.{mapped}

-- ---- a part in front
pub item_front : (x : List ℕ) (xs : List (List ℕ)) (j : Json) (js : Items) (a : List Part) → row_parts (x ∷ xs) (item j js) ≡ Some a → (b : List Part) × (row_parts xs js ≡ Some b) × (a ≡ (x, j) ∷ b)
item_front x xs j js a e = let m = mapped (λ ps. (x, j) ∷ ps) (row_parts xs js) e in (m.0, m.1, sym m.2)

pub item_back : (x : List ℕ) (xs : List (List ℕ)) (j : Json) (js : Items) (b : List Part) → row_parts xs js ≡ Some b → row_parts (x ∷ xs) (item j js) ≡ Some ((x, j) ∷ b)
item_back x xs j js b e = ap (λ o. option_map (λ ps. (x, j) ∷ ps) o) e

-- ---- the ends of places
pub fields_end : (s : Source) (gs : List Wanted) (ms : Members) (n : ℕ) → HasFields s gs [] ms n → NoneLeft s → n ≡ 0
fields_end (One e) gs ms n h l = absurd h
fields_end (TheItems ts) gs ms n h l = absurd h
fields_end (TheMembers m) gs ms n h l = sym h.2 ∙ l
fields_end (InPlace ts) gs ms n h l = h.3
fields_end (Texts m) gs ms n h l = absurd h
fields_end (Ranks m) gs ms n h l = absurd h

-- ---- members that are left
pub left_there : (s : Source) (gs fs : List Wanted) (ms : Members) (n : ℕ) (name : List ℕ) → HasFields s gs fs ms n → IsLeft s name → IsSome (get_member name ms) × (list_any (λ (g : Wanted). bytes_eq name g.0) gs ≡ false)
left_there (TheMembers m) gs fs ms n name h l = h.3 name l
left_there source gs fs ms n name h l = absurd l

pub items_left_none : (s : Source) (js : Items) (name : List ℕ) → HasItems s js → IsLeft s name → ⊥
items_left_none (TheMembers m) js name h l = h
items_left_none source js name h l = l

pub entries_left_none : (k : KeyKind) (s : Source) (es : List Entry) (name : List ℕ) → HasEntries k s es → IsLeft s name → ⊥
entries_left_none TextKeys (TheMembers m) es name h l = h
entries_left_none (NumberKeys n) (TheMembers m) es name h l = h
entries_left_none k source es name h l = l

pub no_row : (js : Items) (a : List Part) → row_parts [] js ≡ Some a → a ≡ []
no_row no_items a e = cc
no_row (item j js) a e = cc

pub no_entries : (es : List Entry) → 0 ≡ length es → es ≡ []
no_entries [] e = refl
no_entries (e ∷ es) h = absurd (omega arith)
