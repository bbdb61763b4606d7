-- Rows of a value, and what they say.
use Rattle.std.proofs.{Common.{◌≡◌, ℕ, ◌+◌, List, [], ◌∷◌, ◌++◌, length, take, inl, inr, refl, ap, sym, subst, ◌∙◌, arith}, lemmas.Option.{slice_get-map}, lemmas.Simd.{map-map}}
use Rattle.std.specs.{Prelude.{ℤ, String, Vec, Option, Some, None, Result, Ok, Err, IfOk, MatchOption, map, option_map, slice_get, string_bytes}, Global.{Global}, Borrow.{Bor}, BTreeMap.{get_by_text}}
use Rattle.borsh_walks.specs.{declared.definition.Definition.{Definition}, declared.definition.Definition.TheVariants.{Primitive, Sequence, Tuple, Enum, Struct}, declared.definition.Fields.{Fields}, declared.definition.Fields.TheVariants.{NamedFields, UnnamedFields, Empty}, declared.definition.LengthRange.{LengthRange}, Definitions.{shape_of}, Container.{Shape}}
use Rattle.borsh_plan.specs.{declared.plan.Plan.{Plan}, Plan.{definitions_of, map_of}}
use Rattle.borsh_values.specs.{Nodes.{AreElementsOf, IsCountOf, IsVariantOf, Opens}, Tags.{IsVariantIndex}, declared.nodes.Node.{Node}, Preorder.{GivesNode, bytes_left, next_offset}}
use Rattle.borsh_json.specs.{declared.error.JsonError.{JsonError}, declared.error.JsonError.TheVariants.{OutOfMemory, NoMember, NoValue, Ambiguous, NotJson, Refused}, declared.error.Refusal.{Refusal}, declared.error.Refusal.TheVariants.{TooDeep, RepeatedName, EmptyElements, NotBool, NotUtf8, Zero, NotNumber, Descends, Expected, MissingField, UnknownName, RepeatedKey, Undefined}, Errors.{IsNoJsonReason, IsNoRowsReason, IsTooDeep, IsUnwritable}, Forms.{Form, sequence, variant_bytes, form_of, form_of_struct}, Places.{lengths_of}, Rows.{IsNextRow, IsPrimitiveText, IsQuoted, IsRowText, IsValueText, GivesEmpty, one_more, counted, rows_plan}, Table.{Lengths, any_length, primitive_kind}, declared.rows.Rows.{Rows}}

-- a refusal for depth is one for which a member has no JSON
deep_reason : (r : Refusal) → IsTooDeep r → IsUnwritable r
deep_reason TooDeep h = tt
deep_reason (RepeatedName n) h = absurd h
deep_reason EmptyElements h = absurd h
deep_reason NotBool h = absurd h
deep_reason NotUtf8 h = absurd h
deep_reason Zero h = absurd h
deep_reason NotNumber h = absurd h
deep_reason Descends h = absurd h
deep_reason (Expected w) h = absurd h
deep_reason MissingField h = absurd h
deep_reason (UnknownName n) h = absurd h
deep_reason (RepeatedKey n) h = absurd h
deep_reason (Undefined n) h = absurd h

-- why there are no rows is why there is no JSON
pub no_json : (C : List ℕ → Option Shape) (root bytes : List ℕ) (e : JsonError) → IsNoRowsReason C root bytes e → IsNoJsonReason C root bytes e
no_json C root bytes OutOfMemory h = tt
no_json C root bytes (NoMember f) h = h
no_json C root bytes NoValue h = absurd h
no_json C root bytes (Ambiguous x) h = h
no_json C root bytes (NotJson i) h = absurd h
no_json C root bytes (Refused p r) h = (h.0, deep_reason r h.1)

-- so far no row is given
pub record NoneYet (old now : Rows) : Type 0 where
  pub plan : rows_plan now ≡ rows_plan old
  pub bytes : bytes_left now.nodes ≡ bytes_left old.nodes
  pub offset : next_offset now.nodes ≡ next_offset old.nodes
  pub empty : GivesEmpty old.nodes now.nodes

no_bytes : (bs : List ℕ) → length bs ≡ 0 → bs ≡ []
no_bytes [] h = refl
no_bytes (b ∷ bs) h = absurd (omega arith)

-- a node without bytes is passed
pub passed : (old now new : Rows) (n : Node) → NoneYet old now → rows_plan new ≡ rows_plan now → GivesNode now.nodes new.nodes n → length n.bytes.now ≡ 0 → NoneYet old new
passed old now new n h same g none =
    let e : bytes_left now.nodes ≡ bytes_left new.nodes = g.bytes ∙ ap (λ l. l ++ bytes_left new.nodes) (no_bytes n.bytes.now none) in
    record { plan = same ∙ h.plan; bytes = sym e ∙ h.bytes; offset = g.next ∙ ap (λ k. next_offset now.nodes + k) none ∙ omega arith ∙ h.offset; empty = one_more n h.empty g (no_bytes n.bytes.now none) same }

-- one with bytes is a row
pub given : (old now new : Rows) (n : Node) → NoneYet old now → GivesNode now.nodes new.nodes n → (length n.bytes.now ≡ 0 → ⊥) → IsNextRow old new n
given old now new n h g some = record {
  some = λ e. some (ap length e);
  bytes = sym h.bytes ∙ g.bytes;
  offset = g.offset ∙ h.offset;
  next = g.next ∙ ap (λ k. k + length n.bytes.now) h.offset;
  defined = subst (λ (l : Bor Plan). get_by_text (map_of l.now) n.name.now ≡ Some n.definition.now) h.plan g.defined;
  now = now.nodes;
  empty = h.empty;
  gives = g;
}

module _ {E : Type 0} (F : List ℕ → Option Form) (x own : List ℕ) (d : Definition) where
  pub primitive_value : (n : ℕ) → d ≡ Primitive n → (r : Result (String Global) E) → IfOk r (λ v. IsPrimitiveText (primitive_kind x n) own (string_bytes v)) → IfOk r (λ v. IsValueText F x (form_of d) own (string_bytes v))
  primitive_value n e (Ok v) h = subst (λ (d : Definition). IsValueText F x (form_of d) own (string_bytes v)) (sym e) h
  primitive_value n e (Err z) h = tt

  pub text_value : (w : ℕ) (l : LengthRange) (s : String Global) → d ≡ Sequence w l s → IsRowText F x (form_of d) (string_bytes s) → (es : List ℕ) → AreElementsOf (shape_of d) own es → (r : Result (String Global) E) → IfOk r (λ v. IsQuoted es (string_bytes v)) → IfOk r (λ v. IsValueText F x (form_of d) own (string_bytes v))
  text_value w l s e t es a (Ok v) h =
      let b = subst (λ (d : Definition). AreElementsOf (shape_of d) own es) e a in
      subst (λ (d : Definition). IsValueText F x (form_of d) own (string_bytes v)) (sym e) (inl (subst (λ (d : Definition). IsRowText F x (form_of d) (string_bytes s)) e t, subst (λ (es : List ℕ). IsQuoted es (string_bytes v)) b h))
  text_value w l s e t es a (Err z) h = tt

  pub count_value : (w : ℕ) (l : LengthRange) (s : String Global) → d ≡ Sequence w l s → (IsRowText F x (form_of d) (string_bytes s) → ⊥) → (count : Option ℕ) → IsCountOf (shape_of d) own count → (r : Result (String Global) E) → IfOk r (λ v. MatchOption count (string_bytes v ≡ []) (λ k. string_bytes v ≡ counted k)) → IfOk r (λ v. IsValueText F x (form_of d) own (string_bytes v))
  count_value w l s e t count a (Ok v) h = subst (λ (d : Definition). IsValueText F x (form_of d) own (string_bytes v)) (sym e) (inr (subst (λ (d : Definition). IsRowText F x (form_of d) (string_bytes s) → ⊥) e t, count, subst (λ (d : Definition). IsCountOf (shape_of d) own count) e a, h))
  count_value w l s e t count a (Err z) h = tt

-- a sequence of the lengths of the format's lists
pub any_lengths : (d : Definition) (w : ℕ) (l : LengthRange) (s : String Global) → d ≡ Sequence w l s → lengths_of (form_of d) ≡ any_length → (e : List ℕ) × (form_of d ≡ sequence 4 0 4294967295 e)
any_lengths d w l s e q =
    let k : lengths_of (form_of (Sequence w l s)) ≡ any_length = subst (λ (d : Definition). lengths_of (form_of d) ≡ any_length) e q in (
      string_bytes s,
      ap (λ d. form_of d) e
          ∙ ap (λ w. sequence w l.start l.end (string_bytes s)) (ap (λ (l : Lengths). l.width) k)
          ∙ ap (λ lo. sequence 4 lo l.end (string_bytes s)) (ap (λ (l : Lengths). l.least) k)
          ∙ ap (λ hi. sequence 4 0 hi (string_bytes s)) (ap (λ (l : Lengths). l.greatest) k),
    )

module _ (F : List ℕ → Option Form) (x own : List ℕ) (d : Definition) where
  pub variant_value : (w : ℕ) (vs : Vec (ℤ × String Global × String Global) Global) → d ≡ Enum w vs → (found : Option ℕ) → IsVariantOf (shape_of d) own found → (t : List ℕ) → MatchOption found (t ≡ []) (λ i. (u : ℤ × String Global × String Global) × (slice_get vs.items i ≡ Some u) × (t ≡ string_bytes u.1)) → IsValueText F x (form_of d) own t
  variant_value w vs e found a t h =
      let b = subst (λ (d : Definition). IsVariantOf (shape_of d) own found) e a in
      let c = subst (λ (us : List (ℤ × List ℕ)). IsVariantIndex us (take w own) found) (sym (map-map (λ u. (u.0, u.2)) variant_bytes vs.items)) b in
      subst (λ (d : Definition). IsValueText F x (form_of d) own t) (sym e) (found, c, listed found h)
    where
      listed : (found : Option ℕ) → MatchOption found (t ≡ []) (λ i. (u : ℤ × String Global × String Global) × (slice_get vs.items i ≡ Some u) × (t ≡ string_bytes u.1)) → MatchOption found (t ≡ []) (λ i. (k : ℤ) × (p : List ℕ) × (slice_get (map variant_bytes vs.items) i ≡ (let u : ℤ × List ℕ × List ℕ = (k, t, p) in Some u)))
      listed None h = h
      listed (Some i) h = (h.0.0, string_bytes h.0.2, slice_get-map variant_bytes vs.items i ∙ ap (λ o. option_map variant_bytes o) h.1 ∙ ap (λ (s : List ℕ). (let u : ℤ × List ℕ × List ℕ = (h.0.0, s, string_bytes h.0.2) in Some u)) (sym h.2))

  -- a variant that was found is listed
  pub variant_there : (w : ℕ) (vs : Vec (ℤ × String Global × String Global) Global) → d ≡ Enum w vs → (i : ℕ) → IsVariantOf (shape_of d) own (Some i) → slice_get vs.items i ≡ None → ⊥
  variant_there w vs e i a g =
      let b = subst (λ (d : Definition). IsVariantOf (shape_of d) own (Some i)) e a in
      let parts : ℤ × String Global × String Global → ℤ × List ℕ = λ u. (u.0, string_bytes u.2) in
      let n = slice_get-map parts vs.items i ∙ ap (λ o. option_map parts o) g in
      let s = b.2 in
      cc

-- of other definitions than primitives, sequences and enums nothing is said
pub nothing_value : (F : List ℕ → Option Form) (x own : List ℕ) (d : Definition) → ((n : ℕ) → d ≡ Primitive n → ⊥) → ((w : ℕ) (l : LengthRange) (s : String Global) → d ≡ Sequence w l s → ⊥) → ((w : ℕ) (vs : Vec (ℤ × String Global × String Global) Global) → d ≡ Enum w vs → ⊥) → (t : List ℕ) → t ≡ [] → IsValueText F x (form_of d) own t
nothing_value F x own (Primitive n) f g h t e = absurd (f n refl)
nothing_value F x own (Sequence w l s) f g h t e = absurd (g w l s refl)
nothing_value F x own (Tuple es) f g h t e = e
nothing_value F x own (Enum w vs) f g h t e = absurd (h w vs refl)
nothing_value F x own (Struct fs) f g h t e = of_struct fs
  where
    of_struct : (fs : Fields) → IsValueText F x (form_of_struct fs) own t
    of_struct (NamedFields fs) = e
    of_struct (UnnamedFields fs) = e
    of_struct Empty = e

pub if_same : {E : Type 0} (P : List ℕ → Type 0) (r : Result (String Global) E) (t : List ℕ) → IfOk r (λ v. string_bytes v ≡ t) → P t → IfOk r (λ v. P (string_bytes v))
if_same P (Ok v) t e p = subst (λ t. P t) (sym e) p
if_same P (Err z) t e p = tt
