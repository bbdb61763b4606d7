use Rattle.std.proofs.Common.{◌≡◌, ◌∙◌, List, ℕ, MatchBool, Some, map, sym, ap, subst, ℤ, slice_get}
use Rattle.borsh_json.specs.{Forms.{IsOption, choice, form_of}, Found.{forms_of}}
use Rattle.borsh_json.proofs.{FoundLaws.{listed, types_are, other_width}, formats.option_part.Goals.{else-tag_width-eq1-via-then-tag_width-eq1+else-are_of_option, else-tag_width-eq1-via-else-tag_width-eq1}}
use Rattle.borsh_json.proofs.formats.option_part.Goals as goal

pub returns-then-are_of_option : goal.returns-then-are_of_option
returns-then-are_of_option c = λ x h.
    let d = c.args.definitions.now in
    let vs = map listed c.as_slice.result.now in
    let f : forms_of d x ≡ Some (choice 1 vs) = h.1 ∙ ap (λ d. Some (form_of d)) c.in-Enum.is ∙ ap (λ w. Some (choice w (map listed c.in-Enum.variants.items))) c.if-tag_width-eq1.true ∙ ap (λ l. Some (choice 1 (map listed l))) (sym c.as_slice.ensures.value) in
    let r = subst (λ b. MatchBool b ((p : List ℕ) × (slice_get (map (λ (v : ℤ × List ℕ × List ℕ). v.2) vs) 1 ≡ Some p) × IsOption (forms_of d) x p) ((p : List ℕ) → IsOption (forms_of d) x p → ⊥)) c.if-are_of_option.true (c.are_of_option.ensures x (h.0, f)) in
    let i = c.part.ensures x r.0 (choice 1 vs) h.0 f (ap (λ l. slice_get l 1) (types_are vs) ∙ r.1) in
    (r.0, i, r.2)

pub returns-else-tag_width-eq1 : goal.returns-else-tag_width-eq1
returns-else-tag_width-eq1 c = λ x h p o.
    let d = c.args.definitions.now in
    let g : forms_of d x ≡ Some (choice c.in-Enum.tag_width (map listed c.in-Enum.variants.items)) = h.1 ∙ ap (λ d. Some (form_of d)) c.in-Enum.is in
    elim c.else-tag_width-eq1.branch [
      | else-tag_width-eq1-via-then-tag_width-eq1+else-are_of_option w ↦ (
          let vs = map listed w.as_slice.result.now in
          let f : forms_of d x ≡ Some (choice 1 vs) = g ∙ ap (λ w. Some (choice w (map listed c.in-Enum.variants.items))) w.if-tag_width-eq1.true ∙ ap (λ l. Some (choice 1 (map listed l))) (sym w.as_slice.ensures.value) in
          let r = subst (λ b. MatchBool b ((p : List ℕ) × (slice_get (map (λ (v : ℤ × List ℕ × List ℕ). v.2) vs) 1 ≡ Some p) × IsOption (forms_of d) x p) ((p : List ℕ) → IsOption (forms_of d) x p → ⊥)) w.if-are_of_option.false (w.are_of_option.ensures x (h.0, f)) in
          r p o)
      | else-tag_width-eq1-via-else-tag_width-eq1 w ↦ other_width (forms_of d) x p c.in-Enum.tag_width (map listed c.in-Enum.variants.items) g w.if-tag_width-eq1.false o
    ]
