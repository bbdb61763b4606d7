-- The call of `put_all` as one step of a walk: what it is handed, and what it gives back. Assumes `Logic`.
use Rattle.std.proofs.Common.{◌≡◌, ℕ, ◌-◌, ◌<◌, [], ◌∷◌, ◌++◌, refl, sym, ap, ◌∙◌, MutBor}
use seplogic.Ra.Ura.{Ura}
use mir.Syntax.{Callee, Dict, named, a_type, dcons, dnil}
use mir.Val.{Val, vbool, vstruct, of_list}
use base.Logic.{SProp, ent, sep, ex, guard, emp, id⊢}
use base.Fml.{Lft, Share, Fml, ftrue, fsep, flft, fres, fbor}
use prog.Memory.{Memory}
use prog.Routine.{Routine}
use types.Logic.{Logic, sem}
use types.SemTy.{Body}
use types.Kit.{‵, raw, ◌⊛◌, some, later, ◌$◌, ◌∵◌, !, qed, move, keep, use0, use1, split, split3, join, pick, rewrite, fsplit, fsplit3, fjoin, fpick, feq_l, check, show, await, updating, now as at_once, done}
use contract.BorrowLft.{◌⊑◌}
use contract.Lifetimes.{Lfts, AllOutlive}
use contract.Monad.{Fun, fact, fact_i}
use denote.RattleType.{RattleType}
use denote.Builtin.{bool}
use denote.Memory.{mem}
use denote.Param.{param, bounded}
use denote.RawPtr.{block_ptr}
use denote.Ref.{MutRef, mut_vals}
use denote.Steps.{heard, nothing, only}
use denote.Struct.Tuple.{Tuple}
use denote.Triple.Clauses.{Ended, Lasts, lasts}
use denote.Triple.Spec.{triple_of}
use denote.Triple.Statement.{Contract}
use Rattle.core.specs.Bool.{MatchBool}
use Rattle.core.specs.Mem.Slots.{slots_ptr, slots_len, slots_items, SamePlaces, IsFull}
use Rattle.core.proofs.slots.Opens.{row_val, words_val}
use Rattle.std_alloc.proofs.VecSteps.El.{El, el_x}
use Rattle.std_alloc.proofs.vec.Spares.{Row, Row-seen}
use Rattle.std_alloc.proofs.Pairs.{pair_val}
use Rattle.borsh_arrays.specs.Made.{IsMadeBehind, IsGivenUp}
use Rattle.borsh_arrays.specs.declared.Maker.{Ghosts}
use Rattle.borsh_arrays.specs.contracts.row.put_all as F
use Rattle.borsh_arrays.specs.contracts.row.put_all.Key as key

module _ (E : El) (W : RattleType) (g : Ghosts W.Denot (el_x E)) (d d' : Dict) where
  abbrev pub puts_key : Callee
  puts_key = key.name (bounded (a_type ∷ a_type ∷ []) (E.row, (W, tt)) (dcons d (dcons d' dnil)))

  abbrev ended : Ended
  ended = F.ended E.row W g d d'

  -- what `put_all` returns
  abbrev pub Pair : RattleType
  Pair = Tuple (Row E ∷ bool ∷ [])

  -- the lifetimes of the maker's reference, of T and of the maker's type, with the shares of their tokens;
  -- the row, which lies at (b, o); the first value, stored as u; and the maker
  pub record Call : Type 0 where
    pub κ : Lft
    pub κT : Lft
    pub κW : Lft
    pub q : Share
    pub qT : Share
    pub qW : Share
    pub bounds : AllOutlive 3 ended.signature.outlives (κ, (κT, (κW, tt)))
    pub row : (Row E).Denot
    pub b : ℕ
    pub o : ℕ
    pub first : el_x E
    pub u : Val
    pub maker : MutBor W.Denot

  module _ (c : Call) where
    abbrev κs : Lfts 3
    κs = (c.κ, (c.κT, (c.κW, tt)))

    abbrev MakerRef : RattleType
    MakerRef = MutRef (named 0) c.κ (param 1 W)

    -- what is left of the maker's reference once it is given away: the maker's last value, and the borrow
    abbrev pub given_away : W.Denot → Fml
    given_away last = fsep (fres c.maker.ghost_name (W.coded.code last)) (fbor c.κ (Body (mem (param 1 W)) c.maker.ref_ptr.0 c.maker.ref_ptr.1 c.maker.ghost_name))

    -- what the contract says of what came back
    abbrev Told : Pair.Denot → W.Denot → Type 0
    Told r last = MatchBool r.1 (IsFull r.0 × IsMadeBehind g.makes (slots_len c.row - 1) c.first c.maker.now (slots_items r.0) last) (IsGivenUp g.makes g.gives_up (slots_len c.row - 1) c.maker.now last)

    -- that, and how it is stored
    abbrev pub Returned : Val → Pair.Denot → W.Denot → Type 0
    Returned v r last = (v ≡ pair_val (row_val c.b c.o (slots_len r.0)) (vbool r.1)) × SamePlaces c.row r.0 × Told r last

  module _ {M : Type 1} {𝓤 : Ura M} (𝓛 : Logic 𝓤) (at_mem : Memory → SProp 𝓤) (run : Routine → Fun 𝓤) where
    open 𝓛 use {H, A}

    abbrev pub Puts : Contract 𝓤
    Puts = triple_of 𝓛 ended.signature (F.spec E.row W g d d' 𝓛 at_mem run)

    module _ (c : Call) where
      abbrev pub at_puts : Puts.Ghost
      at_puts = ((κs c, (c.q, (c.qT, (c.qW, tt))), c.bounds, (c.row, (c.first, (c.maker, tt))), (row_val c.b c.o (slots_len c.row) ∷ [], (c.u ∷ [], (mut_vals c.maker, tt)))), tt)

      abbrev Tokens : SProp 𝓤
      Tokens = sep 𝓤 (A.lft c.κ c.q) (sep 𝓤 (A.lft c.κT c.qT) (A.lft c.κW c.qW))

      pub puts_goes : c.κT ⊑ E.row.lives → c.κW ⊑ W.lives → 0 < slots_len c.row
          → ent 𝓤 (sep 𝓤 (sem 𝓛 ((Row E).own_val c.row (row_val c.b c.o (slots_len c.row) ∷ []))) (sep 𝓤 (sem 𝓛 (E.row.own_val c.first (c.u ∷ []))) (sep 𝓤 (sem 𝓛 ((MakerRef c).own_val c.maker (mut_vals c.maker))) Tokens))) (Puts.pre at_puts)
      puts_goes lives_T lives_W pos =
          qed 𝓛 ((‵ ((Row E).own_val c.row (row_val c.b c.o (slots_len c.row) ∷ [])) ⊛ ‵ (E.row.own_val c.first (c.u ∷ [])) ⊛ ‵ ((MakerRef c).own_val c.maker (mut_vals c.maker)) ⊛ ‵ (flft c.κ c.q) ⊛ ‵ (flft c.κT c.qT) ⊛ ‵ (flft c.κW c.qW)) ∷ []) ∵
          split3 ! $ move ! (2 ∷ []) $ split3 ! $ move ! (2 ∷ []) $ split ! $
          -- [T's token; the maker's; the maker; the reference's token; the row; the first value]
          nothing ! $ move ! (2 ∷ 0 ∷ []) $ join ! $ move ! (1 ∷ 0 ∷ []) $ join ! $ move ! (2 ∷ 0 ∷ []) $ join ! $
          -- [the tokens; the maker; the row; the first value]
          nothing ! $ move ! (2 ∷ 0 ∷ []) $ fjoin ! $ move ! (3 ∷ 0 ∷ []) $ fjoin ! $ move ! (2 ∷ 0 ∷ []) $ fjoin ! $ move ! (1 ∷ 0 ∷ []) $ join ! $
          use0 𝓛 (raw (fact 𝓤 (0 < slots_len c.row))) (fact_i 𝓤 (0 < slots_len c.row) (emp 𝓤) pos) $
          use0 𝓛 (raw (fact 𝓤 (c.κW ⊑ W.lives))) (fact_i 𝓤 (c.κW ⊑ W.lives) (emp 𝓤) lives_W) $ join ! $
          use0 𝓛 (raw (fact 𝓤 (c.κT ⊑ E.row.lives))) (fact_i 𝓤 (c.κT ⊑ E.row.lives) (emp 𝓤) lives_T) $ join ! $
          move ! (1 ∷ 0 ∷ []) $ done !

      -- the row, what is left of the maker's reference, and the tokens
      abbrev Back : Pair.Denot → W.Denot → SProp 𝓤
      Back r last = sep 𝓤 (sem 𝓛 ((Row E).own_val r.0 (row_val c.b c.o (slots_len r.0) ∷ []))) (sep 𝓤 (sem 𝓛 (given_away c last)) Tokens)

      pub puts_gives : (v : Val) → slots_ptr c.row ≡ block_ptr c.b c.o → ent 𝓤 (Puts.post at_puts v) (H.⇛ (ex 𝓤 (λ (r : Pair.Denot). ex 𝓤 (λ (last : W.Denot). guard 𝓤 (Returned c v r last) (Back r last)))))
      puts_gives v at =
          let passed = at_puts.0.3 in
          qed 𝓛 (raw (Puts.post at_puts v) ∷ []) ∵ updating ! $
          use1 𝓛 (later (some (λ (r : Pair.Denot). ((‵ (flft c.κ c.q) ⊛ ‵ (flft c.κT c.qT) ⊛ ‵ (flft c.κW c.qW) ⊛ ‵ ftrue) ⊛ ‵ (Pair.own_val r (v ∷ [])))
          ⊛ some (λ (ws : Lasts ended (κs c) passed). ‵ (lasts ended (κs c) passed ws) ⊛ raw (fact 𝓤 (SamePlaces c.row r.0)) ⊛ raw (fact 𝓤 (Told c r ws.1.1.0)))))) (id⊢ 𝓤 _) $ await ! tt $
          pick ! (λ r. split ! $ move ! (1 ∷ []) $ pick ! (λ ws. split3 ! $
          move ! (1 ∷ 2 ∷ []) $ heard ! (SamePlaces c.row r.0) (λ same. heard ! (Told c r ws.1.1.0) (λ told.
          -- [the last values; the tokens and the pair]
          fsplit3 ! $ move ! (2 ∷ []) $ fsplit ! $ keep ! (0 ∷ 4 ∷ []) $ move ! (1 ∷ []) $ split ! $ split3 ! $ move ! (2 ∷ []) $ split ! $
          -- [the maker's token; nothing; the reference's token; T's; the pair; what is left of the reference]
          move ! (4 ∷ []) $ fpick ! (λ vss. fsplit ! $ feq_l ! (λ whole. fsplit3 ! $
          Row-seen E ! r.0 vss.0 (λ b' o' at' row_is fits.
          let there : row_val b' o' (slots_len r.0) ≡ row_val c.b c.o (slots_len r.0) = ap (λ p. words_val p (slots_len r.0)) (sym at' ∙ same.start ∙ at) in
          rewrite ! 0 (λ (w : Val). ‵ ((Row E).own_val r.0 (w ∷ []))) there refl $
          move ! (1 ∷ []) $ feq_l ! (λ bool_is. at_once ! $
          -- [the row; nothing; the maker's token; nothing; the reference's token; T's; what is left of the reference]
          show ! (λ (p : Pair.Denot). ex 𝓤 (λ (last : W.Denot). guard 𝓤 (Returned c v p last) (Back p last))) r $
          show ! (λ (last : W.Denot). guard 𝓤 (Returned c v r last) (Back r last)) ws.1.1.0 $
          check ! (ap only whole ∙ (λ i. vstruct (of_list (row_is i ++ (bool_is i ++ [])))) ∙ ap (λ w. pair_val w (vbool r.1)) there, same, told) $
          keep ! (0 ∷ 6 ∷ 4 ∷ 5 ∷ 2 ∷ []) $ done !))))))))
