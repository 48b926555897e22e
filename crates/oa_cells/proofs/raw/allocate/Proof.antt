-- `allocate` makes a row of empty places of the new block, and keeps the right to free it. Assumes `Logic`.
use Rattle.oa_cells.proofs.Steps.{◌≡◌, refl, sym, ap, subst, ℕ, ◌*◌, ◌<◌, ◌^◌, arith, List, [], ◌∷◌, ◌++◌, lit<, length, replicate}
use Rattle.oa_cells.proofs.Steps.{length-replicate, Ura, SProp, ent, Lft, Share, ftrue, flft, Incl-trans, Fn, Body, named, w64, ty_array}
use Rattle.oa_cells.proofs.Steps.{inst_fn, Val, vptr, vint, vstruct, vcons, vnil, Memory, align, capped, capped_fits, Routine, Env, Calls}
use Rattle.oa_cells.proofs.Steps.{Loops, Wp, WpFn, Tables, after_seq, at_return, Logic, Fun, fact, ◌⊑◌, tables, tables_of, WpFn-mono, FmC}
use Rattle.oa_cells.proofs.Steps.{fm_of, Item, After, ⋆, any_q, at_ret, ‵, raw, ◌⊛◌, later, await, ◌$◌, ◌∵◌, !, qed, by, move, keep, use0}
use Rattle.oa_cells.proofs.Steps.{use1, use2, use3, split, join, frame, fsplit, fsplit3, fjoin, feq_l, flt_i, flt_l, suffices, done, live}
use Rattle.oa_cells.proofs.Steps.{vrt, in_variant, whole, agg, stop, fld, lit, of_opd, bin, and_then, no_more, first, exec, returns, enter}
use Rattle.oa_cells.proofs.Steps.{size_word, align_word, switches_on, alloc_all, pass_all, free_all, look_at, get, get_in, get_tag, sets}
use Rattle.oa_cells.proofs.Steps.{sets_last, lands_as, is, env, yes, RattleType, owns, Is, hidden_shr, layout, Ptr, block_ptr, Bor, ShrRef}
use Rattle.oa_cells.proofs.Steps.{RefOf, usize, plain, nothing, owned, Struct, Struct-Makes, Tuple, calls_at, Clauses, Ended, closing}
use Rattle.oa_cells.proofs.Steps.{on_entry, Meets, triple_of, Triple, entered, says, needs, Stays, stay_dropped, walk_of, ends_at}
use Rattle.oa_cells.proofs.Steps.{Goes-dropped, walk_Meets, None, Ok, Err, IfOk, FitsInBlock, El, R, elτ, uncapped, block_ty, block_size}
use Rattle.oa_cells.proofs.Steps.{block_align, Al, second, takes_key, Takes, at_takes, Answered, Answer-typed, Takes-goes, Takes-gives}
use Rattle.oa_cells.proofs.Steps.{answers, as_written, Good, word, word-Good, first_Good, ok_of, err_of, after, head, arm_body}
use mathlib.Core.Bool.{true, false}
use denote.Struct.Declared as Declared
use Rattle.core.proofs.slots.Leases.{P, args as pair}
use Rattle.core.specs.contracts.result.Result as Result-type
use Rattle.core.specs.contracts.alloc.AllocError as Error-type
use Rattle.oa_cells.specs.Ownership.{row_owned}
use Rattle.oa_cells.proofs.Rows.{Pl, St, Mark, size, mark, mark_made, start_made, triple, triple_made, fresh_row}
use Rattle.oa_cells.specs.contracts.raw.FreeRight as F-type
use Rattle.oa_cells.specs.contracts.raw.allocate as contract
use Rattle.oa_cells.specs.contracts.raw.allocate.Key.{name as #self}
use Rattle.oa_cells.proofs.raw.allocate.Statement as stated
use Rattle.oa_cells.proofs.raw.allocate.Code as code

module _ (E : El) (Z : Al) where
  abbrev function : Fn
  function = inst_fn (pair E Z) code.function

  abbrev ended : Ended
  ended = contract.ended E.row Z.row Z.g Z.d Z.drops

  abbrev clauses : {M : Type 1} {𝓤 : Ura M} (𝓛 : Logic 𝓤) → (Memory → SProp 𝓤) → (Routine → Fun 𝓤) → Clauses 𝓤 ended
  clauses 𝓛 = contract.clauses E.row Z.row Z.g Z.d Z.drops 𝓛

  -- the right to free, the three parts, and what is returned
  abbrev Fr : RattleType
  Fr = F-type.the_row (R E) (P E Z) Z.g

  abbrev Parts : RattleType
  Parts = Tuple (St E ∷ Pl E ∷ Fr ∷ [])

  abbrev Outcome : RattleType
  Outcome = Result-type.the_row Parts Error-type.the_row

  abbrev stayed : Stays ended.signature.params ended.kept
  stayed = (stay_dropped (RefOf (0 ∷ []) tt (plain (λ _. P E Z)) (λ _. tt)) yes, (stay_dropped (plain (λ _. usize)) yes, tt))

module _ (E : El) (Z : Al) {M : Type 1} {𝓤 : Ura M} (𝓛 : Logic 𝓤) (at_mem : Memory → SProp 𝓤) (run : Routine → Fun 𝓤) (C : Calls 𝓤 𝓛.H)
    (Λ : Loops 𝓤 𝓛.H) (fm : FmC 𝓤 𝓛.H 𝓛.laws C)
    (callee : Triple 𝓤 (C (takes_key Z)) (Takes Z 𝓛 at_mem run)) (κ κ₁ κ₂ : Lft) (q q₁ q₂ : Share) (short : κ ⊑ κ₂) (within : κ₂ ⊑ Z.row.lives) (rb ro : ℕ)
    (a : Z.row.Denot) (len : ℕ) (vs0 vs1 : List Val) where
  open 𝓛 use {H, A}

  abbrev handle : Bor Z.row.Denot
  handle = record { ref_ptr = (rb, ro); now = a }

  abbrev others : Item 𝓤
  others = ‵ (flft κ₁ q₁) ⊛ ‵ (flft κ₂ q₂) ⊛ ‵ ftrue

  abbrev bound : (walk_of 𝓛 (ended E Z) (stayed E Z) (clauses E Z 𝓛 at_mem run)).Ghost
  bound = (((κ, (κ₁, (κ₂, tt))), (q, (q₁, (q₂, tt))), (short, tt), (handle, (len, tt)), (vs0, (vs1, tt))), tt)

  abbrev Post : Val → SProp 𝓤
  Post = (walk_of 𝓛 (ended E Z) (stayed E Z) (clauses E Z 𝓛 at_mem run)).post bound

  abbrev Tells : (Outcome E Z).Denot → Type 0
  Tells r = IfOk r (λ t. (t.1.at ≡ t.0.ptr) × (t.1.slots ≡ replicate len None) × (t.2.at ≡ t.0.ptr) × (t.2.len ≡ len) × (t.2.alloc ≡ a))

  at_end : (r : (Outcome E Z).Denot) (v : Val) → Tells r
      → ent 𝓤 (⋆ 𝓛 (‵ ((Outcome E Z).own_val r (v ∷ [])) ∷ ‵ (flft κ q) ∷ others ∷ [])) (Post v)
  at_end r v tells =
      qed 𝓛 (‵ ((Outcome E Z).own_val r (v ∷ [])) ∷ ‵ (flft κ q) ∷ others ∷ []) ∵
      suffices ! _ (ends_at 𝓛 (ended E Z) (stayed E Z) (clauses E Z 𝓛 at_mem run) bound v r (tt, (tt, tt)) (tt, (tt, tt))) $ says ! tells $
      move ! (1 ∷ 2 ∷ []) $ join ! $ frame ! $ nothing ! $ nothing ! $ fjoin ! $ nothing ! $ fjoin ! $ done !

  abbrev Given : List (Item 𝓤)
  Given = ‵ (hidden_shr (P E Z) κ a rb ro) ∷ ‵ (flft κ q) ∷ others ∷ []

  walk : FitsInBlock (R E) len → len < 2 ^ 64 → ent 𝓤 (⋆ 𝓛 Given) (WpFn 𝓤 H C Λ (function E Z) (vptr rb ro ∷ vint w64 len ∷ []) Post)
  walk asked fits =
      let s = size E in let small : len * s < 2 ^ 63 = asked.0 in let bytes : len * s < 2 ^ 64 = omega (arith, small) in let alignment : ℕ =
      capped (align (elτ E)) in
      qed 𝓛 Given ∵ enter ! C Λ (function E Z) (vptr rb ro ∷ vint w64 len ∷ []) _ $ alloc_all !
      (λ l. pass_all ! refl ((tt, tt), ((tt, record { fits = fits }), tt)) $
      let En : Env 𝓤 H = env (function E Z).locals l in let rest : Body = after 3 (function E Z).body in let arms : Body = head (after 2 (function E Z).body) in
      let Then : After 𝓤 H = any_q (after_seq 𝓤 H (Wp 𝓤 H C Λ En rest (at_return 𝓤 H En Post)) (at_return 𝓤 H En Post)) in
      let y : (Takes Z 𝓛 at_mem run).Ghost = at_takes Z 𝓛 at_mem run κ q (rb, ro) a (len * s) alignment (block_ty E len) in
      sets ! (is ! (bin ! (get ! refl) (size_word !) (record { fits = subst (λ (k : ℕ). k < 2 ^ 64) (sym (uncapped len s bytes)) bytes }))
      (ap (vint w64) (uncapped len s bytes))) refl (tt, record { fits = bytes }) $
      use2 𝓛 (raw ((Takes Z 𝓛 at_mem run).pre y))
      (Takes-goes Z 𝓛 at_mem run κ q (rb, ro) a (Incl-trans short within) (len * s) alignment (block_ty E len) (block_size E len bytes)
      (block_align E len) bytes (capped_fits (align (elτ E)))) $
      calls_at ! fm (Takes Z 𝓛 at_mem run) callee y (and_then ! (get ! refl) (and_then ! (get ! refl) (and_then ! (align_word !) (no_more !)))) (λ v.
      use1 𝓛 (later (raw (Answered Z 𝓛 at_mem run a (block_ty E len) v) ⊛ ‵ (flft κ q)))
      (Takes-gives Z 𝓛 at_mem run κ q (rb, ro) a (len * s) alignment (block_ty E len) v) $ await ! tt $ split ! $
      answers Z ! at_mem run a (block_ty E len) v
      -- a block: its room, its token, the tokens of lifetimes
      (λ b o e.
      let at : Ptr = block_ptr b o in
      let start : (St E).Denot = record { ptr = at } in
      let places : (Pl E).Denot = record { mark = record {}; at = at; slots = replicate len None } in
      let right : (Fr E Z).Denot = record { mark = record {}; at = at; len = len; alloc = a } in
      let parts : Val = triple (word at) mark mark in
      let typed : Good (layout (Parts E Z)) parts = (tt, ((tt, tt), ((tt, tt), ((tt, tt), tt)))) in
      let ok_typed = first_Good (layout (Parts E Z)) parts typed in
      lands_as ! e refl (Answer-typed true b o) $ first ! $ switches_on ! (get_tag ! (vrt ! refl (fld ! refl (stop !))) (whole !)) $ exec ! C Λ En
      (arm_body 0 arms) Then $
      sets ! (of_opd ! (get_in ! (vrt ! refl (fld ! refl (stop !))) (in_variant ! 0 0 refl refl (whole !)))) refl (tt, tt) $ sets ! (of_opd ! (get ! refl)) refl
      (tt, tt) $
      sets ! (agg ! (and_then ! (get ! refl) (no_more !))) refl (word-Good [] at) $
      sets ! (agg ! (no_more !)) refl (tt, tt) $ sets ! (agg ! (and_then ! (get ! refl) (no_more !))) refl (tt, (tt, tt)) $
      sets ! (agg ! (no_more !)) refl (tt, tt) $ sets ! (agg ! (and_then ! (get ! refl) (no_more !))) refl (tt, (tt, tt)) $
      sets ! (agg ! (and_then ! (get ! refl) (and_then ! (get ! refl) (and_then ! (get ! refl) (no_more !))))) refl typed $
      sets_last ! (agg ! (and_then ! (lit ! tt) (and_then ! (get ! refl) (no_more !)))) refl ok_typed $ exec ! C Λ En rest (at_ret En Post) $ sets !
      (of_opd ! (get ! refl)) refl ok_typed $
      -- the right to free, the places, and where they start
      move ! (1 ∷ []) $ use0 𝓛 (‵ ((Mark E).own_val (tt, tt) (mark ∷ []))) (mark_made E 𝓛) $ fjoin ! $ move ! (1 ∷ []) $
      as_written ! (ty_array (elτ E) len) b o $ use1 𝓛 (‵ (row_owned (R E) b o places.slots)) (fresh_row E 𝓛 b len o) $
      flt_i ! (length places.slots * s) (2 ^ 63) (subst (λ k. k * s < 2 ^ 63) (sym (length-replicate len None)) small) $ fjoin ! $
      use0 𝓛 (‵ ((Mark E).own_val (tt, tt) (mark ∷ []))) (mark_made E 𝓛) $ fjoin ! $ start_made ! at $
      use3 𝓛 (‵ ((Parts E Z).own_val (start, places, right) (parts ∷ []))) (triple_made 𝓛 (St E) (Pl E) (Fr E Z) start places right (word at) mark mark) $
      use1 𝓛 (‵ ((Outcome E Z).own_val (Ok (start, places, right)) (live 0 (vcons parts vnil) ∷ [])))
      (ok_of 𝓛 (Parts E Z) Error-type.the_row (start, places, right) parts) $
      returns ! (look_at ! 0 refl) $ free_all ! refl $ keep ! (0 ∷ 1 ∷ 2 ∷ []) $ by !
      (at_end (Ok (start, places, right)) (live 0 (vcons parts vnil)) (refl, refl, refl, refl, refl)))
      -- no block
      (λ e.
      let Refusal : RattleType = Struct (Declared.shape Error-type.the_type) in
      let refused : Val = live 1 (vcons (vstruct vnil) vnil) in
      let typed : Good (layout (Outcome E Z)) refused = (tt, (record { fits = lit< tt }, (tt, tt))) in
      lands_as ! e refl (Answer-typed false 0 0) $ first ! $ switches_on ! (get_tag ! (vrt ! refl (fld ! refl (stop !))) (whole !)) $ exec ! C Λ En
      (arm_body 1 arms) Then $
      sets ! (of_opd ! (get_in ! (vrt ! refl (fld ! refl (stop !))) (in_variant ! 1 0 refl refl (whole !)))) refl (tt, tt) $
      sets_last ! (agg ! (and_then ! (lit ! tt) (and_then ! (get ! refl) (no_more !)))) refl typed $ exec ! C Λ En rest (at_ret En Post) $ sets !
      (of_opd ! (get ! refl)) refl typed $
      owned ! Refusal (Is Refusal) (Struct-Makes 𝓛 (Declared.shape Error-type.the_type) tt) tt (vstruct vnil ∷ []) (tt, (refl, tt)) $
      use1 𝓛 (‵ ((Outcome E Z).own_val (Err (record {})) (refused ∷ []))) (err_of 𝓛 (Parts E Z) Error-type.the_row (record {}) (vstruct vnil)) $
      returns ! (look_at ! 0 refl) $ free_all ! refl $ keep ! (0 ∷ 1 ∷ 2 ∷ []) $ by ! (at_end (Err (record {})) refused tt))))

  entry : FitsInBlock (R E) len → ent 𝓤 (on_entry 𝓛 (ended E Z).signature (κ, (κ₁, (κ₂, tt))) (q, (q₁, (q₂, tt))) (handle, (len, tt))
      (vs0, (vs1, tt))) (WpFn 𝓤 H C Λ (function E Z) (vs0 ++ (vs1 ++ [])) Post)
  entry asked =
      qed 𝓛 ((‵ (flft κ q) ⊛ others) ∷ ‵ (owns (ShrRef (named 0) κ (P E Z) ∷ usize ∷ []) (handle, (len, tt)) (vs0, (vs1, tt))) ∷ []) ∵ split ! $ move !
      (2 ∷ []) $
      fsplit3 ! $ fsplit ! $ feq_l ! (λ e0. move ! (1 ∷ []) $ fsplit ! $ feq_l ! (λ e1. flt_l ! (λ fits. keep ! (0 ∷ 2 ∷ 3 ∷ []) $
      by ! (subst (λ (vss : List Val × List Val). ent 𝓤 (⋆ 𝓛 Given) (WpFn 𝓤 H C Λ (function E Z) (vss.0 ++ (vss.1 ++ [])) Post)) (λ i. (sym e0 i, sym e1 i))
      (walk asked fits)))))

meets : (E : El) (Z : Al) {M : Type 1} {𝓤 : Ura M} (𝓛 : Logic 𝓤) (at_mem : Memory → SProp 𝓤) (run : Routine → Fun 𝓤) (𝓣 : Tables 𝓤 𝓛.H)
    → Triple 𝓤 (𝓣.C (takes_key Z)) (Takes Z 𝓛 at_mem run)
    → Meets 𝓛 (ended E Z).signature (WpFn 𝓤 𝓛.H 𝓣.C 𝓣.Λ (function E Z)) (closing 𝓛 (ended E Z) (clauses E Z 𝓛 at_mem run))
meets E Z {𝓤 = 𝓤} 𝓛 at_mem run 𝓣 callee =
    let Run = WpFn 𝓤 𝓛.H 𝓣.C 𝓣.Λ (function E Z) in
    walk_Meets 𝓛 (ended E Z) (stayed E Z) (
      Goes-dropped 𝓛 3 (RefOf (0 ∷ []) tt (plain (λ _. P E Z)) (λ _. tt)) yes (λ κs x f. refl),
      (Goes-dropped 𝓛 3 (plain (λ _. usize)) yes (λ κs x f. refl), tt),
    ) (clauses E Z 𝓛 at_mem run) Run (WpFn-mono 𝓤 𝓛.H 𝓛.laws 𝓣 (function E Z)) (λ z.
    let κs = z.0.0 in let qs = z.0.1 in let a = z.0.3 in let vs = z.0.4 in let handle = a.0 in let len = a.1.0 in
    let On : SProp 𝓤 = on_entry 𝓛 (ended E Z).signature κs qs a vs in let asks = FitsInBlock (R E) len in
    second 𝓤 (κs.1.0 ⊑ E.row.lives) (κs.1.1.0 ⊑ Z.row.lives) On (fact 𝓤 asks) (λ within. needs 𝓤 asks On
    (entry E Z 𝓛 at_mem run 𝓣.C 𝓣.Λ (fm_of 𝓤 𝓛.H 𝓛.laws 𝓣) callee κs.0 κs.1.0 κs.1.1.0 qs.0 qs.1.0 qs.1.1.0 z.0.2.0 within handle.ref_ptr.0 handle.ref_ptr.1
    handle.now len vs.0 vs.1.0)))

pub allocate_spec : {M : Type 1} → stated.statement M
unfolding tables_of
allocate_spec 𝓤 𝓛 𝓜 𝓡 wired X W LX LW g d dd met md =
    let E : El = record { row = X; laws = LX } in let Z : Al = record { row = W; laws = LW; g = g; d = d; drops = dd } in
    let 𝓣 : Tables 𝓤 𝓛.H = tables_of 𝓤 𝓛.H 𝓜 (tables 𝓤 𝓛.H 𝓜 𝓡 𝓡.env) in
    entered 𝓤 𝓛.H (triple_of 𝓛 (ended E Z).signature (contract.spec X W g d dd 𝓛 𝓜.mem 𝓡.returns)) 𝓣.C 𝓣.Λ (#self (pair E Z)) (function E Z)
    (code.unfolded 𝓤 𝓛.H 𝓜 𝓡 wired (X, (W, tt)) d dd)
    (meets E Z 𝓛 𝓜.mem 𝓡.returns 𝓣 (met.allocate dd))
