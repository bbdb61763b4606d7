-- The bytes that a `None` of `Option<ManuallyDrop<[T; N]>>` leaves free: they are room for the array, and with the rest of the `Option` room for it again.
use Rattle.std.proofs.Common.{◌≡◌, ℕ, [], ◌∷◌, zero, ◌+◌, ◌%◌, refl, sym, subst, arith}
use seplogic.Ra.Ura.{Ura}
use mir.Syntax.{Ty, Sym, Width, w8, w16, w32, w64, w128, ty_int, ty_struct, ty_enum, tcons, tnil, ttcons, ttnil}
use mir.Val.{bytes}
use prog.Memory.{size, align, up, capped}
use prog.Align.{Dv, dv→, align_w, align-bytes, align_size}
use prog.Model.{rooms_at}
use base.Logic.{SProp, ent, sep, wand, id⊢, apply∗}
use base.Fml.{ftrue, froom}
use types.Logic.{Logic}
use types.Kit.{‵, raw, ◌⊛◌, ◌$◌, ◌∵◌, !, qed, by, move, use1, use2, split, split3, join, rewrite, frame, assume}

-- `Option<ManuallyDrop<σ>>`
abbrev pub option_of : Sym → Sym → Ty → Ty
option_of ν μ σ = ty_enum ν (ttcons tnil (ttcons (tcons (ty_struct μ (tcons σ tnil)) tnil) ttnil))

-- a byte for the tag, and the value behind it
abbrev tagged : Ty → Ty
tagged σ = ty_struct [] (tcons (ty_int w8) (tcons σ tnil))

-- both lie alike, and the value begins as many bytes from the start as it is aligned to
record IsLaidAlike (ν μ : Sym) (σ : Ty) : Type 0 where
  pub same_size : size (tagged σ) ≡ size (option_of ν μ σ)
  pub aligned : Dv (align (tagged σ)) (align (option_of ν μ σ))
  pub value_at : 0 + up (align σ) (up 1 zero + 1) ≡ capped (align σ) + 0

laid_by : (ν μ : Sym) (σ : Ty) (w : Width) → align σ ≡ bytes w → size σ % bytes w ≡ 0 → IsLaidAlike ν μ σ
laid_by ν μ σ w8 e whole = record { same_size = rw e (omega arith); aligned = rw e tt; value_at = rw e refl }
laid_by ν μ σ w16 e whole = record { same_size = rw e (omega arith); aligned = rw e tt; value_at = rw e refl }
laid_by ν μ σ w32 e whole = record { same_size = rw e (omega arith); aligned = rw e tt; value_at = rw e refl }
laid_by ν μ σ w64 e whole = record { same_size = rw e (omega arith); aligned = rw e tt; value_at = rw e refl }
laid_by ν μ σ w128 e whole = record { same_size = rw e (omega arith); aligned = rw e tt; value_at = rw e refl }

laid_alike : (ν μ : Sym) (σ : Ty) → IsLaidAlike ν μ σ
laid_alike ν μ σ = laid_by ν μ σ (align_w σ) (align-bytes σ) (subst (λ (a : ℕ). size σ % a ≡ 0) (align-bytes σ) (dv→ (align σ) (size σ) (align_size σ)))

module _ {M : Type 1} {𝓤 : Ura M} (𝓛 : Logic 𝓤) (ν μ : Sym) (σ : Ty) (b : ℕ) where
  open 𝓛 use {H}

  -- where the value of the `Option` lies
  abbrev at : ℕ
  at = capped (align σ) + 0

  -- what turns room for the value back into room for the `Option`
  abbrev pub WayBack : SProp 𝓤
  WayBack = wand 𝓤 (H.room σ b at) (H.room (option_of ν μ σ) b 0)

  pub room_within : ent 𝓤 (H.room (option_of ν μ σ) b 0) (sep 𝓤 (H.room σ b at) WayBack)
  room_within =
      let option : Ty = option_of ν μ σ in
      let alike : IsLaidAlike ν μ σ = laid_alike ν μ σ in
      let parts : SProp 𝓤 = rooms_at 𝓤 H (tcons (ty_int w8) (tcons σ tnil)) zero b 0 in
      let tag = ‵ (froom (ty_int w8) b (0 + up 1 zero)) in
      qed 𝓛 (‵ (froom option b 0) ∷ []) ∵
      use1 𝓛 (‵ (froom (tagged σ) b 0) ⊛ raw (wand 𝓤 (H.room (tagged σ) b 0) (H.room option b 0))) (𝓛.laws.room_as option (tagged σ) b 0 alike.same_size alike.aligned) $ split ! $
      use1 𝓛 (raw parts ⊛ raw (wand 𝓤 parts (H.room (tagged σ) b 0))) (𝓛.laws.room_fields [] (tcons (ty_int w8) (tcons σ tnil)) b 0) $ split ! $
      use1 𝓛 (tag ⊛ ‵ (froom σ b (0 + up (align σ) (up 1 zero + 1))) ⊛ ‵ ftrue) (id⊢ 𝓤 parts) $ split3 ! $
      rewrite ! 1 (λ (o : ℕ). ‵ (froom σ b o)) alike.value_at refl $
      -- [the tag; the value; nothing; what turns each room back]
      move ! (1 ∷ []) $ frame ! $ assume {P = H.room option b 0} ! (‵ (froom σ b at)) $
      rewrite ! 0 (λ (o : ℕ). ‵ (froom σ b o)) (sym alike.value_at) refl $
      move ! (0 ∷ 2 ∷ []) $ join ! $ move ! (1 ∷ 0 ∷ []) $ join ! $
      use2 𝓛 (‵ (froom (tagged σ) b 0)) (apply∗ 𝓤 parts (H.room (tagged σ) b 0)) $ by ! (apply∗ 𝓤 (H.room (tagged σ) b 0) (H.room option b 0))
