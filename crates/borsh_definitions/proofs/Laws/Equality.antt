-- `==` of two definitions is equality of what they say.
use Rattle.std.proofs.Common.{◌≡◌, ℤ, Bool, true, false, ◌&&◌, List, [], ◌∷◌, map, refl, sym, ◌∙◌, ap, true≢false, String, Global, nat_eq, Decides, string_bytes}
use Rattle.std.specs.Cmp.Lexicographic.{pointwise}
use Rattle.std.specs.String.{string_eq}
use Rattle.std.specs.Ordering.{int_eq}
use Rattle.std.proofs.lemmas.Bool.Decides.{Decides-eqb, Decides-int_eq, Decides-like, Decides-and}
use Rattle.std.proofs.lemmas.Slice.Eq.{bytes_eq-Decides}
use Rattle.borsh_walks.specs.declared.definition.Definition.{Definition}
use Rattle.borsh_walks.specs.declared.definition.Definition.TheVariants.{Primitive, Sequence, Tuple, Enum, Struct}
use Rattle.borsh_walks.specs.declared.definition.Fields.{Fields}
use Rattle.borsh_walks.specs.declared.definition.Fields.TheVariants.{NamedFields, UnnamedFields, Empty}
use Rattle.borsh_walks.specs.contracts.definition.DefinitionPartialEq.TheImpl as of_definitions
use Rattle.borsh_definitions.specs.Described.{Form, field_bytes, variant_bytes, primitive, sequence, tuple, choice, named, unnamed, no_fields, form_of_struct, form_of}

-- `==` of definitions
abbrev pub same : Definition → Definition → Bool
same = (of_definitions.ghosts).eq

-- lists that are seen element by element
pub each-Decides : {A B : Type 0} (E : A → A → Bool) (f : A → B) → ((x y : A) → Decides (E x y) (f x ≡ f y)) → (xs ys : List A) → Decides (pointwise E xs ys) (map f xs ≡ map f ys)
each-Decides E f each [] [] = (λ e. refl, λ e. refl)
each-Decides E f each [] (y ∷ ys) = (λ e. absurd (true≢false (sym e)), λ e. absurd (cc))
each-Decides E f each (x ∷ xs) [] = (λ e. absurd (true≢false (sym e)), λ e. absurd (cc))
each-Decides E f each (x ∷ xs) (y ∷ ys) =
    Decides-like (E x y && pointwise E xs ys) (λ p. let h = p.0 in let t = p.1 in cc) (λ e. (cc, cc)) (Decides-and (E x y) (pointwise E xs ys) (each x y) (each-Decides E f each xs ys))

pub text-Decides : (a b : String Global) → Decides (string_eq a b) (string_bytes a ≡ string_bytes b)
text-Decides a b = bytes_eq-Decides (string_bytes a) (string_bytes b)

field-Decides : (a b : String Global × String Global) → Decides (string_eq a.0 b.0 && string_eq a.1 b.1) (field_bytes a ≡ field_bytes b)
field-Decides a b =
    Decides-like _ (λ p. let h = p.0 in let t = p.1 in cc) (λ e. (ap (λ q. q.0) e, ap (λ q. q.1) e)) (Decides-and _ _ (text-Decides a.0 b.0) (text-Decides a.1 b.1))

variant-Decides : (a b : ℤ × String Global × String Global) → Decides (int_eq a.0 b.0 && string_eq a.1 b.1 && string_eq a.2 b.2) (variant_bytes a ≡ variant_bytes b)
variant-Decides a b =
    Decides-like _ (λ p. let h = p.0 in let t = p.1 in cc) (λ e. ((ap (λ q. q.0) e, ap (λ q. q.1) e), ap (λ q. q.2) e)) (Decides-and _ _ (Decides-and _ _ (Decides-int_eq a.0 b.0) (text-Decides a.1 b.1)) (text-Decides a.2 b.2))

-- fields, or something else
is_fields : Form → Bool
is_fields (primitive n) = false
is_fields (sequence w lo hi e) = false
is_fields (tuple ns) = false
is_fields (choice w vs) = false
is_fields (named fs) = true
is_fields (unnamed ns) = true
is_fields no_fields = true

are_fields : (fs : Fields) → is_fields (form_of_struct fs) ≡ true
unfolding is_fields
are_fields (NamedFields fs) = refl
are_fields (UnnamedFields fs) = refl
are_fields Empty = refl

no_same : {a b : Form} → is_fields a ≡ false → is_fields b ≡ true → a ≡ b → ⊥
no_same e f p = true≢false (sym f ∙ ap is_fields (sym p) ∙ e)

pub definition-Decides : (a b : Definition) → Decides (same a b) (form_of a ≡ form_of b)
unfolding is_fields
definition-Decides (Primitive m) (Primitive n) = Decides-like (nat_eq m n) (λ e. ap primitive e) (λ e. cc) (Decides-eqb m n)
definition-Decides (Primitive m) (Sequence w s e) = (λ t. absurd (true≢false (sym t)), λ p. absurd (cc))
definition-Decides (Primitive m) (Tuple b) = (λ t. absurd (true≢false (sym t)), λ p. absurd (cc))
definition-Decides (Primitive m) (Enum w b) = (λ t. absurd (true≢false (sym t)), λ p. absurd (cc))
definition-Decides (Primitive m) (Struct b) = (λ t. absurd (true≢false (sym t)), λ p. absurd (no_same refl (are_fields b) p))
definition-Decides (Sequence v r d) (Primitive n) = (λ t. absurd (true≢false (sym t)), λ p. absurd (cc))
definition-Decides (Sequence v r d) (Sequence w s e) =
    Decides-like _ (λ p. let h = p.0 in let i = p.1 in cc) (λ p. (cc, ((cc, cc), cc)))
    (Decides-and _ _ (Decides-eqb v w) (Decides-and _ _ (Decides-and _ _ (Decides-eqb r.start s.start) (Decides-eqb r.end s.end)) (text-Decides d e)))
definition-Decides (Sequence v r d) (Tuple b) = (λ t. absurd (true≢false (sym t)), λ p. absurd (cc))
definition-Decides (Sequence v r d) (Enum w b) = (λ t. absurd (true≢false (sym t)), λ p. absurd (cc))
definition-Decides (Sequence v r d) (Struct b) = (λ t. absurd (true≢false (sym t)), λ p. absurd (no_same refl (are_fields b) p))
definition-Decides (Tuple a) (Primitive n) = (λ t. absurd (true≢false (sym t)), λ p. absurd (cc))
definition-Decides (Tuple a) (Sequence w s e) = (λ t. absurd (true≢false (sym t)), λ p. absurd (cc))
definition-Decides (Tuple a) (Tuple b) = Decides-like _ (λ e. ap tuple e) (λ e. cc) (each-Decides string_eq (λ e. string_bytes e) text-Decides a.items b.items)
definition-Decides (Tuple a) (Enum w b) = (λ t. absurd (true≢false (sym t)), λ p. absurd (cc))
definition-Decides (Tuple a) (Struct b) = (λ t. absurd (true≢false (sym t)), λ p. absurd (no_same refl (are_fields b) p))
definition-Decides (Enum v a) (Primitive n) = (λ t. absurd (true≢false (sym t)), λ p. absurd (cc))
definition-Decides (Enum v a) (Sequence w s e) = (λ t. absurd (true≢false (sym t)), λ p. absurd (cc))
definition-Decides (Enum v a) (Tuple b) = (λ t. absurd (true≢false (sym t)), λ p. absurd (cc))
definition-Decides (Enum v a) (Enum w b) =
    Decides-like _ (λ p. let h = p.0 in let i = p.1 in cc) (λ p. (cc, cc)) (Decides-and _ _ (Decides-eqb v w) (each-Decides (λ x y. int_eq x.0 y.0 && string_eq x.1 y.1 && string_eq x.2 y.2) variant_bytes variant-Decides a.items b.items))
definition-Decides (Enum v a) (Struct b) = (λ t. absurd (true≢false (sym t)), λ p. absurd (no_same refl (are_fields b) p))
definition-Decides (Struct a) (Primitive n) = (λ t. absurd (true≢false (sym t)), λ p. absurd (no_same refl (are_fields a) (sym p)))
definition-Decides (Struct a) (Sequence w s e) = (λ t. absurd (true≢false (sym t)), λ p. absurd (no_same refl (are_fields a) (sym p)))
definition-Decides (Struct a) (Tuple b) = (λ t. absurd (true≢false (sym t)), λ p. absurd (no_same refl (are_fields a) (sym p)))
definition-Decides (Struct a) (Enum w b) = (λ t. absurd (true≢false (sym t)), λ p. absurd (no_same refl (are_fields a) (sym p)))
definition-Decides (Struct (NamedFields a)) (Struct (NamedFields b)) = Decides-like _ (λ e. ap named e) (λ e. cc) (each-Decides (λ x y. string_eq x.0 y.0 && string_eq x.1 y.1) field_bytes field-Decides a.items b.items)
definition-Decides (Struct (NamedFields a)) (Struct (UnnamedFields b)) = (λ t. absurd (true≢false (sym t)), λ p. absurd (cc))
definition-Decides (Struct (NamedFields a)) (Struct Empty) = (λ t. absurd (true≢false (sym t)), λ p. absurd (cc))
definition-Decides (Struct (UnnamedFields a)) (Struct (NamedFields b)) = (λ t. absurd (true≢false (sym t)), λ p. absurd (cc))
definition-Decides (Struct (UnnamedFields a)) (Struct (UnnamedFields b)) = Decides-like _ (λ e. ap unnamed e) (λ e. cc) (each-Decides string_eq (λ e. string_bytes e) text-Decides a.items b.items)
definition-Decides (Struct (UnnamedFields a)) (Struct Empty) = (λ t. absurd (true≢false (sym t)), λ p. absurd (cc))
definition-Decides (Struct Empty) (Struct (NamedFields b)) = (λ t. absurd (true≢false (sym t)), λ p. absurd (cc))
definition-Decides (Struct Empty) (Struct (UnnamedFields b)) = (λ t. absurd (true≢false (sym t)), λ p. absurd (cc))
definition-Decides (Struct Empty) (Struct Empty) = (λ e. refl, λ e. refl)
