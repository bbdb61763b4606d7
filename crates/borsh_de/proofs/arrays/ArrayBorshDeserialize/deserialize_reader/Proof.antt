-- `deserialize_reader` hands on what it was given to `read_row`, at the array's type. Assumes `Logic`.
use Rattle.std.proofs.Common.{◌<◌, ◌^◌, [], ◌∷◌, refl}
use mir.Syntax.{Args, Fn, named, a_type, a_number, dcons, dnil}
use mir.Val.{Val}
use mir.MapTy.{inst_fn}
use base.Logic.{SProp, emp, sep, via, fst∗, snd∗, id⊢}
use base.Fml.{Lft, Share, ftrue, flft}
use types.Logic.{sem}
use types.Kit.{‵, raw, ◌⊛◌, some, later, ◌$◌, ◌∵◌, !, qed, by, move, keep, drop, use0, use1, split, split3, join, pick, fsplit3, fjoin, await}
use types.Run.{stop, addr, no_more, and_then, enter, returns}
use types.ByLocal.{alloc_all, pass_all, free_all, look_at, get, through, sets, lands_as}
use prog.Memory.{size}
use contract.BorrowLft.{◌⊑◌}
use contract.Monad.{fact, fact_i, fact_use}
use contract.Running.{tables}
use denote.RattleType.{RattleType, owns}
use denote.Exit.{yes}
use denote.Laws.{Is, shows}
use denote.Param.{number, param, layout, bounded, ArrayAt}
use denote.Param.Laws.{Laws, Told, param_laws, number_array_laws}
use denote.Ref.{mut_vals, mut_Tells}
use denote.Signature.{plain, types_at}
use denote.Steps.{nothing, heard, peeks}
use denote.Triple.Call.{calls_at}
use denote.Triple.Clauses.{Ended, Lasts, lasts}
use denote.Triple.Entry.{on_entry}
use denote.Triple.Spec.{triple_of}
use denote.Triple.Table.{framed}
use denote.Triple.Walked.{Stays, walk_of, stay_dropped, gave_ref, Goes-dropped, Goes-gave_ref}
use Rattle.std.proofs.raw_atomic.Walks.{proved, leaves}
use Rattle.std.specs.contracts.alloc.Global as heap
use Rattle.std.proofs.alloc.Global.TheLaws as heap_laws
use Rattle.std.specs.contracts.result.Result as RS
use Rattle.std.proofs.result.Result.TheLaws as RS_laws
use Rattle.borsh_io.specs.contracts.error.Error as error
use Rattle.borsh_io.proofs.error.Error.TheLaws as error_laws
use Rattle.borsh_codec.specs.Shapes.{array}
use Rattle.borsh_codec.specs.Reading.{Decodes}
use Rattle.borsh_de.specs.contracts.arrays.read_row as rr
use Rattle.borsh_de.proofs.arrays.read_row.Met as read_row
use Rattle.borsh_de.specs.contracts.arrays.ArrayRow.TheImpl as row
use Rattle.borsh_de.proofs.arrays.ArrayRow.TheImpl.Met as row_met
use Rattle.borsh_de.specs.contracts.arrays.ArrayBorshDeserialize.deserialize_reader as F
use Rattle.borsh_de.specs.contracts.arrays.ArrayBorshDeserialize.deserialize_reader.Key.{name as #self}
use Rattle.borsh_de.proofs.arrays.ArrayBorshDeserialize.deserialize_reader.Statement.{statement}
use Rattle.borsh_de.proofs.arrays.ArrayBorshDeserialize.deserialize_reader.Code as code

pub deserialize_reader_spec : {M : Type 1} → statement M
deserialize_reader_spec {M = M} 𝓤 𝓛 𝓜 𝓡 wired T n R LT fits LR gD dD gB dB dG gR dR metD metB metG metR =
    let N : RattleType = number n in let 𝓣 = tables 𝓤 𝓛.H 𝓜 𝓡 𝓡.env in
    let inst : Args = bounded (a_type ∷ a_number ∷ a_type ∷ []) (T, (N, (R, tt))) (dcons dD (dcons dB (dcons dG (dcons dR dnil)))) in
    let fn : Fn = inst_fn inst code.function in
    let En : Ended = F.ended T N R gD dD gB dB dG gR dR in let c = F.clauses T N R gD dD gB dB dG gR dR 𝓛 𝓜.mem 𝓡.returns in
    let hs : Stays En.signature.params En.kept = (stay_dropped (plain (λ _. heap.the_row)) yes, (gave_ref (0 ∷ []) tt (plain (λ _. param 2 R)), tt)) in
    let Arr : RattleType = ArrayAt (param 0 T) (param 1 N) in let LA : Laws Arr = number_array_laws (param 0 T) (param_laws 0 T LT) (param 1 N) refl in
    let Out : RattleType = RS.the_row Arr error.the_row in
    let LO : Laws Out = RS_laws.the_row_laws Arr error.the_row LA error_laws.the_row_laws in
    let told : Told heap.the_row = heap_laws.the_plain_told in
    -- the array as `Row`
    let gA = row.ghosts T N gD dD gB dB dG in let dA = row.dict T N gD dD gB dB dG in
    let metA = λ (small : size (layout Arr) < 2 ^ 63). row_met.bound 𝓡.env (code.calls-borsh_de::arrays::ArrayRow::blank 𝓡.env wired) (code.calls-borsh_de::arrays::ArrayRow::read_slice 𝓡.env wired) (code.calls-borsh_de::arrays::ArrayRow::read_each 𝓡.env wired) (code.calls-borsh_de::arrays::ArrayRow::discard 𝓡.env wired) T n LT fits small gD dD gB dB dG M 𝓤 𝓛 𝓜 𝓡 metD metB metG in
    let G = triple_of 𝓛 (rr.signature Arr R) (rr.spec Arr R gA dA gR dR 𝓛 𝓜.mem 𝓡.returns) in
    let W = walk_of 𝓛 En hs c in
    let read_ended : Ended = rr.ended Arr R gA dA gR dR in
    proved 𝓛 En hs c 𝓜 𝓡 (Goes-dropped 𝓛 4 (plain (λ _. heap.the_row)) yes (λ κs x w. refl), (Goes-gave_ref 𝓛 4 0 tt (plain (λ _. param 2 R)), tt))
    (#self inst) fn (code.unfolded 𝓤 𝓛.H 𝓜 𝓡 wired (T, (N, (R, tt))) dD dB dG dR)
    (λ κs. ((λ x. told.val x ∷ []), (mut_vals, tt))) (λ κs. (told.tells, (mut_Tells (named 0) κs.0 (param 2 R), tt))) (λ κs qs bounds a g are.
    let κ : Lft = κs.0 in let κT : Lft = κs.1.0 in let κN : Lft = κs.1.1.0 in let κR : Lft = κs.1.1.1.0 in
    let q : Share = qs.0 in let qT : Share = qs.1.0 in let qN : Share = qs.1.1.0 in let qR : Share = qs.1.1.1.0 in
    let z : W.Ghost = ((κs, qs, bounds, a, (told.val a.0 ∷ [], (mut_vals a.1.0, tt))), g) in
    let z' : G.Ghost = (((κ, (κT, (κR, tt))), (q, (qT, (qR, tt))), bounds, a, (told.val a.0 ∷ [], (mut_vals a.1.0, tt))), g) in
    let Says : R.Denot → Out.Denot → Type 0 = λ w r. Decodes (array n gB.codec) gR.stream a.1.0.now w r in
    let Post : Val → SProp 𝓤 = W.post z in
    -- what is owned on entry, and of what is required the last parts and all but the first
    let entry : SProp 𝓤 = on_entry 𝓛 En.signature κs qs a z.0.4 in let owned : SProp 𝓤 = sem 𝓛 (owns (types_at En.signature.params κs) a z.0.4) in
    let rest : SProp 𝓤 = sep 𝓤 (fact 𝓤 (size (layout Arr) < 2 ^ 63)) (sem 𝓛 ftrue) in
    let last : SProp 𝓤 = sep 𝓤 (fact 𝓤 (κR ⊑ R.lives)) rest in let after : SProp 𝓤 = sep 𝓤 (fact 𝓤 (κN ⊑ [])) last in
    let asked : SProp 𝓤 = sep 𝓤 (fact 𝓤 (κT ⊑ T.lives)) after in
    fact_use 𝓤 (κT ⊑ T.lives) (via 𝓤 asked (snd∗ 𝓤 entry asked) (fst∗ 𝓤 (fact 𝓤 (κT ⊑ T.lives)) after)) (λ lives_T.
    fact_use 𝓤 (κR ⊑ R.lives) (via 𝓤 asked (snd∗ 𝓤 entry asked) (via 𝓤 after (snd∗ 𝓤 (fact 𝓤 (κT ⊑ T.lives)) after) (via 𝓤 last (snd∗ 𝓤 (fact 𝓤 (κN ⊑ [])) last) (fst∗ 𝓤 (fact 𝓤 (κR ⊑ R.lives)) rest)))) (λ lives_R.
    fact_use 𝓤 (size (layout Arr) < 2 ^ 63) (via 𝓤 asked (snd∗ 𝓤 entry asked) (via 𝓤 after (snd∗ 𝓤 (fact 𝓤 (κT ⊑ T.lives)) after) (via 𝓤 last (snd∗ 𝓤 (fact 𝓤 (κN ⊑ [])) last) (via 𝓤 rest (snd∗ 𝓤 (fact 𝓤 (κR ⊑ R.lives)) rest) (fst∗ 𝓤 (fact 𝓤 (size (layout Arr) < 2 ^ 63)) (sem 𝓛 ftrue)))))) (λ small.
    qed 𝓛 (raw (W.pre z) ∷ []) ∵ enter ! 𝓣.C 𝓣.Λ fn (told.val a.0 ∷ mut_vals a.1.0) Post $
    alloc_all ! (λ l. pass_all ! refl (((heap_laws.the_row_laws.lawful 𝓛).typed a.0 (told.val a.0 ∷ []) are.0).0, ((tt, tt), tt)) $
    sets ! (addr ! (through ! refl (stop !))) refl (tt, tt) $
    -- the tokens of N and of what `read_row` is handed
    use1 𝓛 (((‵ (flft κ q) ⊛ ‵ (flft κT qT) ⊛ ‵ (flft κN qN) ⊛ ‵ (flft κR qR) ⊛ ‵ ftrue) ⊛ raw owned) ⊛ raw asked) (id⊢ 𝓤 _) $
    split ! $ split ! $ split3 ! $ move ! (2 ∷ []) $ split3 ! $
    -- [N's token; R's; nothing; the reference's; T's; what is owned; what is required]
    nothing ! $ use0 𝓛 (raw (fact 𝓤 (κR ⊑ R.lives))) (fact_i 𝓤 (κR ⊑ R.lives) (emp 𝓤) lives_R) $ join ! $ use0 𝓛 (raw (fact 𝓤 (κT ⊑ T.lives))) (fact_i 𝓤 (κT ⊑ T.lives) (emp 𝓤) lives_T) $ join ! $
    move ! (6 ∷ 0 ∷ []) $ nothing ! $ move ! (4 ∷ 0 ∷ []) $ join ! $ move ! (6 ∷ 0 ∷ []) $ join ! $ move ! (5 ∷ 0 ∷ []) $ join ! $ join ! $ join ! $ use1 𝓛 (raw (G.pre z')) (id⊢ 𝓤 _) $
    calls_at ! (framed 𝓤 𝓛.H 𝓜 𝓣) G (read_row.met 𝓤 𝓛 𝓜 𝓡 (code.calls-borsh_de::arrays::read_row 𝓡.env wired) Arr R LA LR gA dA gR dR (metA small) metR) z'
    (and_then ! (get ! refl) (and_then ! (get ! refl) (no_more !))) (λ v.
    use1 𝓛 (later (some (λ (r : Out.Denot). ((‵ (flft κ q) ⊛ ‵ (flft κT qT) ⊛ ‵ (flft κR qR) ⊛ ‵ ftrue) ⊛ ‵ (Out.own_val r (v ∷ [])))
    ⊛ some (λ (ws : Lasts read_ended z'.0.0 a). ‵ (lasts read_ended z'.0.0 a ws) ⊛ raw (fact 𝓤 (Says ws.1.0 r)))))) (id⊢ 𝓤 _) $
    await ! tt $ pick ! (λ r. split ! $ move ! (1 ∷ []) $ pick ! (λ ws. split ! $ move ! (1 ∷ []) $
    heard ! (Says ws.1.0 r) (λ says.
    -- [the last values; the tokens and the result; N's token]
    fsplit3 ! $ drop ! $ move ! (1 ∷ []) $ drop ! $ move ! (1 ∷ []) $ split ! $ move ! (1 ∷ []) $
    -- [the result; the tokens; what is left of the reader's reference; N's token]
    peeks ! Out (Is Out) (shows 𝓛 Out) r (v ∷ []) (λ is. lands_as ! refl refl ((LO.lawful 𝓛).typed r (v ∷ []) is).0 $
    returns ! (look_at ! 0 refl) $ free_all ! refl $
    move ! (1 ∷ []) $ split3 ! $ move ! (5 ∷ 2 ∷ []) $ join ! $ move ! (2 ∷ 0 ∷ []) $ join ! $ move ! (1 ∷ 0 ∷ []) $ join ! $
    nothing ! $ move ! (3 ∷ 0 ∷ []) $ fjoin ! $ nothing ! $ fjoin ! $
    use0 𝓛 (raw (fact 𝓤 (Says ws.1.0 r))) (fact_i 𝓤 (Says ws.1.0 r) (emp 𝓤) says) $
    keep ! (2 ∷ 1 ∷ 3 ∷ 0 ∷ []) $ by ! (leaves 𝓛 En hs c z v r ws (tt, (tt, tt)))))))))))))
