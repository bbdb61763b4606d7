-- A row of places for the elements of an array: full it is the array, and in any case it is room for one. Assumes `Logic`.
use Rattle.std.proofs.Common.{◌≡◌, ℕ, [], ◌∷◌, length, refl, sym, ◌∙◌, arith}
use lib.Dec.{T}
use seplogic.Ra.Ura.{Ura}
use mir.Syntax.{Ty, ty_array}
use mir.Val.{Val, has_ty, WT}
use base.Fraction.{full_share}
use base.Logic.{ent, sep, ex, guard}
use base.Fml.{fat, froom}
use types.Logic.{Logic, sem}
use types.Kit.{‵, ◌⊛◌, some, ◌$◌, ◌∵◌, !, qed, move, use1, split, pick, rewrite, fjoin, feq_i, show, check, done}
use denote.Array.{Array}
use denote.ArrayMemory.{Array-whole}
use denote.Index.{row as elements}
use denote.Laws.{Is, shows}
use denote.Memory.{part_at}
use denote.Param.{layout}
use denote.Param.Laws.{param_laws, array_laws}
use denote.RattleType.{RattleType}
use denote.Steps.{peeks}
use borrow.Table.OneValue.{part_out}
use Rattle.core.specs.Mem.Slots.{slots_len, slots_items, slots_filled, IsFull}
use Rattle.core.proofs.slots.Opens.{row_val}
use Rattle.core.proofs.slots.Places.{to_row, to_room}
use Rattle.std_alloc.proofs.VecSteps.El.{El, elτ, R}
use Rattle.std_alloc.proofs.vec.Blocks.{el, all}
use Rattle.std_alloc.proofs.vec.Spares.{Row}

-- a row's two words have its type
pub row_typed : (E : El) (row : (Row E).Denot) (b o : ℕ) → T (has_ty (layout (Row E)) (row_val b o (slots_len row))) × WT (row_val b o (slots_len row))
row_typed E row b o = (tt, (tt, (record { fits = row.small }, tt)))

module _ (E : El) (n : ℕ) where
  -- n elements
  abbrev pub Elements : RattleType
  Elements = Array (R E) n

  abbrev pub elements_ty : Ty
  elements_ty = ty_array (elτ E) n

  abbrev pub HasElementsType : Val → Type 0
  HasElementsType w = T (has_ty elements_ty w) × WT w

  module _ {M : Type 1} {𝓤 : Ura M} (𝓛 : Logic 𝓤) (row : (Row E).Denot) (count : slots_len row ≡ n) (b o : ℕ) where
    open 𝓛 use {H}

    flags : length (slots_filled row) ≡ length (slots_items row)
    flags = sym row.ok.1 ∙ row.ok.0

    long : length (slots_items row) ≡ n
    long = sym row.ok.0 ∙ count

    pub row_room : ent 𝓤 (sem 𝓛 (all E b o (slots_items row) (slots_filled row))) (H.room elements_ty b o)
    row_room =
        qed 𝓛 (‵ (all E b o (slots_items row) (slots_filled row)) ∷ []) ∵
        use1 𝓛 (‵ (froom (ty_array (elτ E) (length (slots_items row))) b o)) (to_room (el E) 𝓛 b (slots_items row) (slots_filled row) o flags) $
        rewrite ! 0 (λ (k : ℕ). ‵ (froom (ty_array (elτ E) k) b o)) long refl $ done !

    pub row_array : IsFull row → ent 𝓤 (sem 𝓛 (all E b o (slots_items row) (slots_filled row)))
        (ex 𝓤 (λ (w : Val). guard 𝓤 (HasElementsType w) (sep 𝓤 (sem 𝓛 (Elements.own_val (slots_items row) (w ∷ []))) (H.at full_share elements_ty b o w))))
    row_array full =
        let xs = slots_items row in
        qed 𝓛 (‵ (all E b o xs (slots_filled row)) ∷ []) ∵
        use1 𝓛 (‵ (elements (R E) full_share xs b o)) (to_row (el E) 𝓛 b xs (slots_filled row) o flags (λ k below. full k (omega arith) (omega (arith, row.ok.1, below)))) $
        feq_i ! ℕ (length xs) n long $ fjoin ! $ use1 𝓛 (‵ (part_at Elements full_share xs b o)) (Array-whole 𝓛 (R E) full_share n xs b o) $
        use1 𝓛 (some (λ (w : Val). ‵ (fat full_share elements_ty b o w) ⊛ ‵ (Elements.own_val xs (w ∷ [])))) (part_out 𝓛 Elements refl full_share xs b o) $
        pick ! (λ w. split ! $ move ! (1 ∷ []) $ peeks ! Elements (Is Elements) (shows 𝓛 Elements) xs (w ∷ []) (λ is.
        show ! (λ (v : Val). guard 𝓤 (HasElementsType v) (sep 𝓤 (sem 𝓛 (Elements.own_val xs (v ∷ []))) (H.at full_share elements_ty b o v))) w $
        check ! ((((array_laws (R E) (param_laws 0 E.row E.laws) n).lawful 𝓛).typed xs (w ∷ []) is).0) $ done !))
