-- `fill` makes a row of the bytes that a `None` leaves free, has it filled, and reads it as an array. Assumes `Logic`.
use Rattle.std.proofs.Common.{◌≡◌, ℕ, ◌+◌, ◌-◌, ◌*◌, ◌^◌, ◌<◌, false, List, [], ◌∷◌, ◌++◌, replicate, refl, sym, ap, subst, ◌∙◌, lit<, w8, arith, MutBor, Ok, Err, MatchResult}
use Rattle.std.proofs.lemmas.Bool.{MatchBool-at_true, MatchBool-at_false}
use lib.Ieee.Bits.{is_true, is_false}
use lib.ListN.{length-replicate}
use seplogic.Ra.Ura.{Ura}
use mir.Syntax.{Ty, Fn, Dict, Args, named, a_type, a_number, dcons, dnil, ty_int}
use mir.Val.{Val, vint, vstruct, vnil, vcons}
use mir.MapTy.{inst_fn}
use base.Fraction.{full_share}
use base.Logic.{SProp, ent, sep, emp, apply∗}
use base.Fml.{Fml, Lft, Share, ftrue, fat, froom, flft}
use prog.Memory.{align, capped}
use prog.Model.{Model}
use prog.Wp.{Wp, WpFn, Env, Calls, Loops, after_seq, at_return}
use types.Logic.{Logic, sem}
use types.Kit.{any_q, ‵, raw, ◌⊛◌, some, given, later, prop, at_ret, ◌$◌, ◌∵◌, !, qed, by, move, keep, drop, use0, use1, use2, split, split3, join, group, pick, learn, rewrite, regoal, fsplit3, fjoin, await}
use types.Match.{live}
use types.Part.{whole, sub, agg}
use types.Run.{stop, fld, addr, from, load, look, lit, num_lit, align_word, no_more, and_then, of_opd, bin, first, blocks, branches, exec, returns, enter}
use types.ByLocal.{alloc_all, pass_all, free_all, look_at, get, get_in, through, sets, sets_last, lands_as, take_at, give_at, env}
use contract.BorrowLft.{◌⊑◌}
use contract.Monad.{fact, fact_i}
use contract.Running.{Running, tables}
use denote.RattleType.{RattleType, owns}
use denote.Exit.{no}
use denote.Laws.{Are, Is, Ises}
use denote.Param.{number, param, bounded, ArrayAt}
use denote.Ref.{MutRef, mut_vals}
use denote.Signature.{plain, types_at}
use denote.Steps.{heard, nothing, owned}
use denote.Struct.Struct.{Struct, Struct-Makes, as_fields}
use denote.Struct.Declared as Declared
use denote.Triple.Call.{calls_at}
use denote.Triple.Clauses.{Clauses, Ended}
use denote.Triple.Entry.{alive}
use denote.Triple.Statement.{Contract, Triple}
use denote.Triple.Walked.{Stays, stay_dropped, gave_ref, walk_of, Goes-dropped, Goes-gave_ref}
use Rattle.core.specs.Mem.Slots.{slots_len}
use Rattle.core.specs.contracts.result.Result as RS
use Rattle.core.proofs.alloc.Shapes.{after}
use Rattle.core.proofs.atomic.Steps.{fm}
use Rattle.core.proofs.mem.Param.{lawful, one}
use Rattle.core.proofs.once.Made.{first_arm}
use Rattle.core.proofs.slots.Opens.{row_val}
use Rattle.core.proofs.slots.Runs.{of_space}
use Rattle.core.proofs.slots.Slots.from_raw_parts.Met as from_raw_parts
use Rattle.core.proofs.slots.Slots.into_raw_parts.Met as into_raw_parts
use Rattle.std.proofs.raw_atomic.Walks.{proved_at, leaves}
use Rattle.std_alloc.proofs.ResultValues.{ok_of, err_of}
use Rattle.std_alloc.proofs.VecSteps.El.{El, no_al, el_x, R, sz}
use Rattle.std_alloc.proofs.vec.Blocks.{el, all}
use Rattle.std_alloc.proofs.vec.Spares.{Row, From, from_key, at_from, Made, from_goes, from_gives, Into, into_key, at_into, Into-goes, Into-gives}
use Rattle.borsh_arrays.specs.Made.{IsMadeBehind, IsGivenUp}
use Rattle.borsh_arrays.specs.declared.Maker.{Ghosts}
use Rattle.borsh_arrays.specs.contracts.GaveUp as GU
use Rattle.borsh_arrays.proofs.Room.{option_of, WayBack, room_within}
use Rattle.borsh_arrays.proofs.Rows.{row_typed, Elements, elements_ty, HasElementsType, row_room, row_array}
use Rattle.borsh_arrays.proofs.Calls.{puts_key, Pair, Call, given_away, Returned, Puts, at_puts, puts_goes, puts_gives}
use Rattle.borsh_arrays.proofs.row.put_all.Met as put_all
use Rattle.borsh_arrays.specs.contracts.row.fill as F
use Rattle.borsh_arrays.specs.contracts.row.fill.Key.{name as #self}
use Rattle.borsh_arrays.proofs.row.fill.Statement.{statement}
use Rattle.borsh_arrays.proofs.row.fill.Code as code

-- W is the maker's type; d and d' are the tables of its methods and of T's drop
module _ (E : El) (W : RattleType) (n : ℕ) (g : Ghosts W.Denot (el_x E)) (d d' : Dict) where
  abbrev args : Args
  args = bounded (a_type ∷ a_type ∷ a_number ∷ []) (E.row, (W, (number n, tt))) (dcons d (dcons d' dnil))

  abbrev here : Fn
  here = inst_fn args code.function

  abbrev ended : Ended
  ended = F.ended E.row W (number n) g d d'

  -- the first value goes into the row, and the maker's reference to `put_all`
  abbrev stayed : Stays ended.signature.params ended.kept
  stayed = (stay_dropped (plain (λ _. R E)) no, (gave_ref (0 ∷ []) tt (plain (λ _. param 1 W)), tt))

  abbrev Arr : RattleType
  Arr = ArrayAt (R E) (param 2 (number n))

  abbrev Out : RattleType
  Out = RS.the_row Arr GU.the_row

  -- how `Ok` of the array w and `Err(GaveUp)` are stored
  abbrev ok_val : Val → Val
  ok_val w = live 0 (vcons w vnil)

  abbrev err_val : Val
  err_val = live 1 (vcons (vstruct vnil) vnil)

  module _ {M : Type 1} {𝓤 : Ura M} (𝓛 : Logic 𝓤) (𝓜 : Model 𝓤 𝓛.H) (𝓡 : Running 𝓤 𝓛.H 𝓜) where
    open 𝓛 use {H}

    abbrev C : Calls 𝓤 H
    C = (tables 𝓤 H 𝓜 𝓡 𝓡.env).C

    abbrev Λ : Loops 𝓤 H
    Λ = (tables 𝓤 H 𝓜 𝓡 𝓡.env).Λ

    abbrev Froms : Contract 𝓤
    Froms = From E 𝓛 𝓜.mem 𝓡.returns

    abbrev Intos : Contract 𝓤
    Intos = Into E 𝓛 𝓜.mem 𝓡.returns

    abbrev Putting : Contract 𝓤
    Putting = Puts E W g d d' 𝓛 𝓜.mem 𝓡.returns

    abbrev held : Clauses 𝓤 ended
    held = F.clauses E.row W (number n) g d d' 𝓛 𝓜.mem 𝓡.returns

    abbrev Bound : Type 0
    Bound = (walk_of 𝓛 ended stayed held).Ghost

    module _ (z : Bound) (last : W.Denot) where
      -- what the contract says of the result
      abbrev Says : Out.Denot → Type 0
      Says r = MatchResult r (λ xs. IsMadeBehind g.makes (n - 1) z.0.3.0 z.0.3.1.0.now xs last) (λ _. IsGivenUp g.makes g.gives_up (n - 1) z.0.3.1.0.now last)

      -- what is left of the maker's reference
      abbrev Left : Fml
      Left = stayed.1.0.has z.0.0 z.0.3.1.0 last []

      -- both arms end so
      exits : (r : Out.Denot) (v : Val) → Says r → ent 𝓤 (sep 𝓤 (sem 𝓛 (Out.own_val r (v ∷ []))) (sep 𝓤 (alive 𝓛 ended.signature z.0.0 z.0.1) (sem 𝓛 Left))) ((walk_of 𝓛 ended stayed held).post z v)
      exits r v said =
          qed 𝓛 (‵ (Out.own_val r (v ∷ [])) ∷ raw (alive 𝓛 ended.signature z.0.0 z.0.1) ∷ ‵ Left ∷ []) ∵
          use0 𝓛 (raw (fact 𝓤 (Says r))) (fact_i 𝓤 (Says r) (emp 𝓤) said) $
          nothing ! $ move ! (4 ∷ 0 ∷ []) $ fjoin ! $ nothing ! $ fjoin ! $ move ! (3 ∷ 0 ∷ 2 ∷ 1 ∷ []) $
          by ! (leaves 𝓛 ended stayed held z v r (tt, (last, tt)) (tt, (tt, tt)))

    module _ (from_met : Triple 𝓤 (C (from_key E)) Froms) (into_met : Triple 𝓤 (C (into_key E)) Intos) (puts_met : Triple 𝓤 (C (puts_key E W g d d')) Putting) (fits : n < 2 ^ 64) where
      walk : (z : Bound) → Are (types_at ended.signature.params z.0.0) (Ises (types_at ended.signature.params z.0.0)) z.0.3 z.0.4
          → ent 𝓤 ((walk_of 𝓛 ended stayed held).pre z) (WpFn 𝓤 H C Λ here ((walk_of 𝓛 ended stayed held).args z) ((walk_of 𝓛 ended stayed held).post z))
      walk z are =
          let Post : Val → SProp 𝓤 = (walk_of 𝓛 ended stayed held).post z in
          let κ : Lft = z.0.0.0 in let κT : Lft = z.0.0.1.0 in let κW : Lft = z.0.0.1.1.0 in let κN : Lft = z.0.0.1.1.1.0 in
          let q : Share = z.0.1.0 in let qT : Share = z.0.1.1.0 in let qW : Share = z.0.1.1.1.0 in let qN : Share = z.0.1.1.1.1.0 in
          let value : el_x E = z.0.3.0 in let maker : MutBor W.Denot = z.0.3.1.0 in
          let stored = one (el E) z.0.4.0 ((lawful (el E) 𝓛).typed value z.0.4.0 are.0) in let u : Val = stored.0 in
          qed 𝓛 (((‵ (flft κ q) ⊛ ‵ (flft κT qT) ⊛ ‵ (flft κW qW) ⊛ ‵ (flft κN qN) ⊛ ‵ ftrue) ⊛ ‵ (owns (types_at ended.signature.params z.0.0) z.0.3 z.0.4))
          ∷ (raw (fact 𝓤 (κT ⊑ E.row.lives)) ⊛ raw (fact 𝓤 (κW ⊑ W.lives)) ⊛ raw (fact 𝓤 (κN ⊑ [])) ⊛ raw (fact 𝓤 (n * sz E < 2 ^ 63)) ⊛ raw (fact 𝓤 (0 < n))) ∷ []) ∵
          move ! (1 ∷ []) $ split3 ! $ heard ! (κT ⊑ E.row.lives) (λ lives_T. heard ! (κW ⊑ W.lives) (λ lives_W. split3 ! $ drop ! $
          heard ! (n * sz E < 2 ^ 63) (λ small. heard ! (0 < n) (λ pos.
          split ! $ split3 ! $ move ! (2 ∷ []) $ split3 ! $ move ! (5 ∷ []) $ fsplit3 ! $ keep ! (0 ∷ 1 ∷ 6 ∷ 7 ∷ 3 ∷ 4 ∷ []) $
          rewrite ! 0 (λ (vs : List Val). ‵ (E.row.own_val value vs)) stored.1 refl $
          rewrite ! 1 (λ (vs : List Val). ‵ ((MutRef (named 0) κ (param 1 W)).own_val maker vs)) are.1.0.0 refl $
          regoal ! (λ (vs : List Val). prop (WpFn 𝓤 H C Λ here vs Post)) (λ i. stored.1 i ++ (are.1.0.0 i ++ [])) refl $
          enter ! C Λ here (u ∷ mut_vals maker) Post $ alloc_all ! (λ l. pass_all ! refl (stored.2, ((tt, tt), tt)) $
          -- [the first value; the maker; the tokens: the reference's, T's, the maker's, N's]

          -- the bytes that the `None` leaves free are a row of empty places
          let En : Env 𝓤 H = env here.locals l in
          let τ : Ty = elements_ty E n in let b : ℕ = l 3 in let o : ℕ = capped (align τ) + 0 in
          sets ! (agg ! (and_then ! (lit ! tt) (no_more !))) refl (tt, (record { fits = lit< tt }, tt)) $
          first ! $ blocks ! $ sets ! (addr ! (from ! (stop !))) refl (tt, tt) $ sets_last ! (bin ! (get ! refl) (align_word !) tt) refl (tt, tt) $
          exec ! C Λ En (after 2 here.body) (at_ret En Post) $ sets ! (of_opd ! (get ! refl)) refl (tt, tt) $ sets ! (of_opd ! (get ! refl)) refl (tt, tt) $
          take_at ! 3 $ use1 𝓛 (‵ (froom (option_of _ _ τ) b 0)) (𝓛.laws.at_room _ b 0 (live 0 vnil)) $
          use1 𝓛 (‵ (froom τ b o) ⊛ raw (WayBack 𝓛 _ _ τ b)) (room_within 𝓛 _ _ τ b) $ split ! $
          let xs : List (el_x E) = replicate n value in let xs_long = length-replicate n value in
          let flags = replicate n false in let flags_long = length-replicate n false in
          use1 𝓛 (‵ (all E b o xs flags)) (of_space (el E) 𝓛 b o n xs xs_long) $
          -- [the places; `WayBack`; the first value; the maker; the tokens: the reference's, T's, the maker's, N's]

          -- `Slots::from_raw_parts`
          let from_at = at_from E 𝓛 𝓜.mem 𝓡.returns κT qT b o n xs flags in
          move ! (0 ∷ 5 ∷ []) $ use2 𝓛 (raw (Froms.pre from_at)) (from_goes E 𝓛 𝓜.mem 𝓡.returns κT qT b o n xs flags lives_T (sym xs_long) (sym flags_long) fits small) $
          first ! $ blocks ! $ sets ! (of_opd ! (get ! refl)) refl (tt, tt) $
          calls_at ! (fm 𝓛 𝓜 𝓡) Froms from_met from_at (and_then ! (get ! refl) (and_then ! (num_lit ! (record { fits = fits })) (no_more !))) (λ v.
          use1 𝓛 (later (some (λ (row : (Row E).Denot). given ((v ≡ row_val b o n) × Made E 𝓛 𝓜.mem 𝓡.returns κT qT b o n xs flags row) (‵ ((Row E).own_val row (row_val b o n ∷ [])) ⊛ ‵ (flft κT qT)))))
          (from_gives E 𝓛 𝓜.mem 𝓡.returns κT qT b o n xs flags v) $ await ! tt $ pick ! (λ row. learn ! (λ made. split ! $
          rewrite ! 0 (λ (k : ℕ). ‵ ((Row E).own_val row (row_val b o k ∷ []))) (sym made.1.1) refl $
          lands_as ! (made.0 ∙ ap (row_val b o) (sym made.1.1)) refl (row_typed E row b o) $
          -- [the row; T's token; `WayBack`; the first value; the maker; the tokens: the reference's, the maker's, N's]

          -- `put_all`
          let call : Call E W g d d' = record { κ = κ; κT = κT; κW = κW; q = q; qT = qT; qW = qW; bounds = (z.0.2.0, tt); row = row; b = b; o = o; first = value; u = u; maker = maker } in
          let puts_at = at_puts E W g d d' 𝓛 𝓜.mem 𝓡.returns call in
          sets ! (of_opd ! (get ! refl)) refl (row_typed E row b o) $ sets ! (of_opd ! (get ! refl)) refl stored.2 $ sets ! (addr ! (through ! refl (stop !))) refl (tt, tt) $
          move ! (0 ∷ 3 ∷ 4 ∷ 5 ∷ 1 ∷ 6 ∷ []) $ group ! 6 $
          use1 𝓛 (raw (Putting.pre puts_at)) (puts_goes E W g d d' 𝓛 𝓜.mem 𝓡.returns call lives_T lives_W (omega (arith, made.1.1, pos))) $
          calls_at ! (fm 𝓛 𝓜 𝓡) Putting puts_met puts_at (and_then ! (get ! refl) (and_then ! (get ! refl) (and_then ! (get ! refl) (no_more !)))) (λ v'.
          use1 𝓛 (later (some (λ (r : (Pair E W g d d').Denot). some (λ (last : W.Denot). given (Returned E W g d d' call v' r last)
          (‵ ((Row E).own_val r.0 (row_val b o (slots_len r.0) ∷ [])) ⊛ ‵ (given_away E W g d d' call last) ⊛ ‵ (flft κ q) ⊛ ‵ (flft κT qT) ⊛ ‵ (flft κW qW))))))
          (puts_gives E W g d d' 𝓛 𝓜.mem 𝓡.returns call v' made.1.0) $ await ! tt $ pick ! (λ r. pick ! (λ last. learn ! (λ came. split3 ! $ move ! (2 ∷ []) $ split3 ! $
          let back : (Row E).Denot = r.0 in let typed = row_typed E back b o in let count : slots_len back ≡ n = came.1.count ∙ made.1.1 in
          lands_as ! came.0 refl (tt, (typed.1, (tt, tt))) $
          sets ! (of_opd ! (get_in ! (fld ! refl (stop !)) (sub ! 0 refl (whole !)))) refl typed $ sets ! (of_opd ! (get_in ! (fld ! refl (stop !)) (sub ! 1 refl (whole !)))) refl (tt, tt) $
          -- [the tokens: the reference's, T's, the maker's; the row; what is left of the maker's reference; `WayBack`; N's token]

          -- `Slots::into_raw_parts`
          let into_at = at_into E 𝓛 𝓜.mem 𝓡.returns κT qT back b o in
          sets ! (of_opd ! (get ! refl)) refl typed $
          move ! (3 ∷ 1 ∷ []) $ use2 𝓛 (raw (Intos.pre into_at)) (Into-goes E 𝓛 𝓜.mem 𝓡.returns κT qT back b o lives_T) $
          calls_at ! (fm 𝓛 𝓜 𝓡) Intos into_met into_at (and_then ! (get ! refl) (no_more !)) (λ v''.
          use1 𝓛 (later (given (v'' ≡ row_val b o (slots_len back)) (‵ (all E b o back.items back.filled) ⊛ ‵ (flft κT qT)))) (Into-gives E 𝓛 𝓜.mem 𝓡.returns κT qT back b o v'' (came.1.start ∙ made.1.0)) $
          await ! tt $ learn ! (λ parts. split ! $ lands_as ! parts refl typed $
          sets_last ! (of_opd ! (get ! refl)) refl (tt, tt) $ exec ! C Λ En (after 5 here.body) (at_ret En Post) $
          sets ! (of_opd ! (get ! refl)) refl (tt, tt) $ sets ! (of_opd ! (get ! refl)) refl (tt, tt) $
          -- [the places; the tokens: T's, the reference's, the maker's; what is left of the maker's reference; `WayBack`; N's token]
          nothing ! $ move ! (7 ∷ 0 ∷ []) $ join ! $ move ! (4 ∷ 0 ∷ []) $ join ! $ move ! (2 ∷ 0 ∷ []) $ join ! $ move ! (2 ∷ 0 ∷ []) $ join ! $ move ! (1 ∷ []) $
          -- [the places; the tokens; what is left of the maker's reference; `WayBack`]

          first ! $ branches ! (get ! refl)
          -- the array is read, and its bytes are free again
          (λ full. let gave = MatchBool-at_true _ _ (is_true r.1 full) came.2 in
          let Then = any_q (after_seq 𝓤 H (Wp 𝓤 H C Λ En (after 8 here.body) (at_return 𝓤 H En Post)) (at_return 𝓤 H En Post)) in
          use1 𝓛 (some (λ (w : Val). given (HasElementsType E n w) (‵ ((Elements E n).own_val back.items (w ∷ [])) ⊛ ‵ (fat full_share τ b o w)))) (row_array E n 𝓛 back count b o gave.0) $
          pick ! (λ w. learn ! (λ good. split ! $ let ok_typed = as_fields (ty_int w8 ∷ τ ∷ []) (vint w8 0 ∷ w ∷ []) ((tt, record { fits = lit< tt }), (good, tt)) in
          first ! $ blocks ! $ sets ! (of_opd ! (get ! refl)) refl (tt, tt) $ sets ! (of_opd ! (get ! refl)) refl (tt, tt) $
          sets_last ! (of_opd ! (load ! (through ! refl (stop !)) (look ! 1 refl))) refl good $ exec ! C Λ En (after 1 (first_arm (after 7 here.body))) Then $
          sets ! (of_opd ! (get ! refl)) refl good $ sets_last ! (agg ! (and_then ! (lit ! tt) (and_then ! (get ! refl) (no_more !)))) refl ok_typed $
          exec ! C Λ En (after 8 here.body) (at_ret En Post) $ sets ! (of_opd ! (get ! refl)) refl ok_typed $
          use1 𝓛 (‵ (Out.own_val (Ok back.items) (ok_val w ∷ []))) (ok_of 𝓛 Arr GU.the_row back.items w) $
          move ! (1 ∷ []) $ use1 𝓛 (‵ (froom τ b o)) (𝓛.laws.at_room τ b o w) $ move ! (0 ∷ 4 ∷ []) $
          use2 𝓛 (‵ (froom (option_of _ _ τ) b 0)) (apply∗ 𝓤 (H.room τ b o) _) $ give_at ! 3 $
          returns ! (look_at ! 0 refl) $ free_all ! refl $
          by ! (exits z last (Ok back.items) (ok_val w) (subst (λ (k : ℕ). IsMadeBehind g.makes (k - 1) value maker.now back.items last) made.1.1 gave.1)))))
          -- the places hold nothing, and their bytes are free again
          (λ short. let gave_up = MatchBool-at_false _ _ (is_false r.1 short) came.2 in
          let Error : RattleType = Struct (Declared.shape GU.the_type) in
          use1 𝓛 (‵ (froom τ b o)) (row_room E n 𝓛 back count b o) $ move ! (0 ∷ 3 ∷ []) $
          use2 𝓛 (‵ (froom (option_of _ _ τ) b 0)) (apply∗ 𝓤 (H.room τ b o) _) $ give_at ! 3 $
          sets ! (agg ! (no_more !)) refl (tt, tt) $ sets_last ! (agg ! (and_then ! (lit ! tt) (and_then ! (get ! refl) (no_more !)))) refl (tt, (record { fits = lit< tt }, (tt, tt))) $
          exec ! C Λ En (after 8 here.body) (at_ret En Post) $ sets ! (of_opd ! (get ! refl)) refl (tt, (record { fits = lit< tt }, (tt, tt))) $
          owned ! Error (Is Error) (Struct-Makes 𝓛 (Declared.shape GU.the_type) tt) tt (vstruct vnil ∷ []) (tt, (refl, tt)) $
          use1 𝓛 (‵ (Out.own_val (Err (record {})) (err_val ∷ []))) (err_of 𝓛 Arr GU.the_row (record {}) (vstruct vnil)) $
          returns ! (look_at ! 0 refl) $ free_all ! refl $
          by ! (exits z last (Err (record {})) err_val (subst (λ (k : ℕ). IsGivenUp g.makes g.gives_up (k - 1) maker.now last) made.1.1 gave_up)))))))))))))))))

pub fill_spec : {M : Type 1} → statement M
fill_spec 𝓤 𝓛 𝓜 𝓡 wired T W n laws_T laws_W fits g d d' maker_met drop_met =
    let E : El = record { row = T; laws = laws_T; al = no_al } in
    proved_at 𝓛 (ended E W n g d d') (stayed E W n g d d') (held E W n g d d' 𝓛 𝓜 𝓡) 𝓜 𝓡
    (Goes-dropped 𝓛 4 (plain (λ _. R E)) no (λ κs x f. refl), (Goes-gave_ref 𝓛 4 0 tt (plain (λ _. param 1 W)), tt))
    (#self (args E W n g d d')) (here E W n g d d') (code.unfolded 𝓤 𝓛.H 𝓜 𝓡 wired (T, (W, (number n, tt))) d d')
    (walk E W n g d d' 𝓛 𝓜 𝓡
    (from_raw_parts.met 𝓤 𝓛 𝓜 𝓡 (code.calls-core::slots::Slots::from_raw_parts 𝓡.env wired) T laws_T)
    (into_raw_parts.met 𝓤 𝓛 𝓜 𝓡 (code.calls-core::slots::Slots::into_raw_parts 𝓡.env wired) T laws_T)
    (put_all.met 𝓤 𝓛 𝓜 𝓡 (code.calls-borsh_arrays::row::put_all 𝓡.env wired) T W laws_T laws_W g d d' maker_met drop_met)
    fits.fits)
