-- `release` makes uninitialized memory of the block's places, and returns it together with the allocator's token.
-- Assumes `Logic`.
use Rattle.oa_cells.proofs.Steps.{◌≡◌, refl, sym, ap, subst, ◌∙◌, ℕ, ◌*◌, ◌<◌, ◌^◌, arith, List, [], ◌∷◌, ◌++◌, T, length, Ura, SProp, ent}
use Rattle.oa_cells.proofs.Steps.{never, id⊢, Lft, Share, ftrue, flft, froom, Incl-trans, Fn, named, w64, ty_array, ty_unit, inst_fn, Val}
use Rattle.oa_cells.proofs.Steps.{vptr, vint, vunit, has_ty, WT, Memory, align, capped, capped_fits, Routine, Env, Calls, Loops, WpFn}
use Rattle.oa_cells.proofs.Steps.{Tables, Logic, Fun, fact, ◌⊑◌, tables, tables_of, WpFn-mono, FmC, fm_of, Item, ⋆, at_ret, ‵, raw, ◌⊛◌}
use Rattle.oa_cells.proofs.Steps.{given, later, await, learn, ◌$◌, ◌∵◌, !, qed, by, move, keep, use1, split, join, group, rewrite, fsplit}
use Rattle.oa_cells.proofs.Steps.{fsplit3, fjoin, feq_i, feq_l, flt_l, suffices, done, whole, sub, stop, fld, unit_lit, of_opd, bin}
use Rattle.oa_cells.proofs.Steps.{and_then, no_more, first, blocks, exec, returns, enter, size_word, align_word, alloc_all, pass_all}
use Rattle.oa_cells.proofs.Steps.{free_all, look_at, get, get_in, sets, lands_last, is, env, yes, no, RattleType, owns, hidden_shr, Ptr}
use Rattle.oa_cells.proofs.Steps.{ptr_val, in_a_block, Bor, ShrRef, RefOf, usize, plain, nothing, calls_at_last, Clauses, Ended, closing}
use Rattle.oa_cells.proofs.Steps.{on_entry, Meets, triple_of, Triple, entered, needs, Stays, stay_dropped, walk_of, ends_at, Goes-dropped}
use Rattle.oa_cells.proofs.Steps.{walk_Meets, El, R, elτ, uncapped, block_ty, block_size, block_align, Al, second, Goes-blank, token}
use Rattle.oa_cells.proofs.Steps.{gives_key, Gives, at_gives, Gives-goes, Gives-Gives, as_raw, word, word-Good, after}
use Rattle.core.proofs.slots.Leases.{P, args as pair}
use Rattle.oa_cells.specs.Ownership.{places_owned, freeing}
use Rattle.oa_cells.proofs.Rows.{Pl, St, size, mark, mark_had, start_had, row_to_room}
use Rattle.oa_cells.specs.contracts.raw.FreeRight as F-type
use Rattle.oa_cells.specs.contracts.raw.release as contract
use Rattle.oa_cells.specs.contracts.raw.release.Key.{name as #self}
use Rattle.oa_cells.proofs.raw.release.Statement as stated
use Rattle.oa_cells.proofs.raw.release.Code as code

module _ (E : El) (Z : Al) where
  abbrev function : Fn
  function = inst_fn (pair E Z) code.function

  abbrev ended : Ended
  ended = contract.ended E.row Z.row Z.g Z.d Z.drops

  abbrev clauses : {M : Type 1} {𝓤 : Ura M} (𝓛 : Logic 𝓤) → (Memory → SProp 𝓤) → (Routine → Fun 𝓤) → Clauses 𝓤 ended
  clauses 𝓛 = contract.clauses E.row Z.row Z.g Z.d Z.drops 𝓛

  -- the right to free
  abbrev Fr : RattleType
  Fr = F-type.the_row (R E) (P E Z) Z.g

  abbrev stayed : Stays ended.signature.params ended.kept
  stayed = (
    stay_dropped (RefOf (0 ∷ []) tt (plain (λ _. P E Z)) (λ _. tt)) yes,
    (
      stay_dropped (plain (λ _. St E)) no,
      (
        stay_dropped (plain (λ _. usize)) yes,
        (stay_dropped (plain (λ _. Pl E)) no, (stay_dropped (plain (λ _. Fr)) no, tt)),
      ),
    ),
  )

  abbrev Asks : Z.row.Denot → (St E).Denot → ℕ → (Pl E).Denot → Fr.Denot → Type 0
  Asks a start len p right = (p.at ≡ start.ptr) × (length p.slots ≡ len) × (right.at ≡ start.ptr) × (right.len ≡ len) × (right.alloc ≡ a)

module _ (E : El) (Z : Al) {M : Type 1} {𝓤 : Ura M} (𝓛 : Logic 𝓤) (at_mem : Memory → SProp 𝓤) (run : Routine → Fun 𝓤) (C : Calls 𝓤 𝓛.H)
    (Λ : Loops 𝓤 𝓛.H) (fm : FmC 𝓤 𝓛.H 𝓛.laws C)
    (callee : Triple 𝓤 (C (gives_key Z)) (Gives Z 𝓛 at_mem run)) (κ κ₁ κ₂ : Lft) (q q₁ q₂ : Share) (short : κ ⊑ κ₂) (within : κ₂ ⊑ Z.row.lives) (rb ro : ℕ)
    (a : Z.row.Denot) (start : (St E).Denot) (len : ℕ) (p : (Pl E).Denot) (right : (Fr E Z).Denot) (vs0 vs1 vs2 vs3 vs4 : List Val) where
  open 𝓛 use {H, A}

  abbrev handle : Bor Z.row.Denot
  handle = record { ref_ptr = (rb, ro); now = a }

  abbrev others : Item 𝓤
  others = ‵ (flft κ₁ q₁) ⊛ ‵ (flft κ₂ q₂) ⊛ ‵ ftrue

  abbrev bound : (walk_of 𝓛 (ended E Z) (stayed E Z) (clauses E Z 𝓛 at_mem run)).Ghost
  bound = (((κ, (κ₁, (κ₂, tt))), (q, (q₁, (q₂, tt))), (short, tt), (handle, (start, (len, (p, (right, tt))))), (vs0, (vs1, (vs2, (vs3, (vs4, tt)))))), tt)

  abbrev Post : Val → SProp 𝓤
  Post = (walk_of 𝓛 (ended E Z) (stayed E Z) (clauses E Z 𝓛 at_mem run)).post bound

  at_end : ent 𝓤 (⋆ 𝓛 (‵ (flft κ q) ∷ others ∷ [])) (Post vunit)
  at_end =
      qed 𝓛 (‵ (flft κ q) ∷ others ∷ []) ∵
      suffices ! _ (ends_at 𝓛 (ended E Z) (stayed E Z) (clauses E Z 𝓛 at_mem run) bound vunit tt (tt, (tt, (tt, (tt, (tt, tt)))))
      (tt, (tt, (tt, (tt, (tt, tt)))))) $
      join ! $ feq_i ! (List Val) (vunit ∷ []) (vunit ∷ []) refl $
      nothing ! $ nothing ! $ fjoin ! $ nothing ! $ fjoin ! $ nothing ! $ fjoin ! $ nothing ! $ fjoin ! $ nothing ! $ fjoin ! $ join ! $ move !
      (1 ∷ 0 ∷ []) $ join ! $ nothing ! $ move ! (1 ∷ 0 ∷ []) $ done !

  abbrev Given : List (Item 𝓤)
  Given = ‵ (places_owned (R E) p.at p.slots) ∷ ‵ (freeing (R E) (token Z right.alloc) right.at right.len) ∷ ‵ (hidden_shr (P E Z) κ a rb ro) ∷ ‵
      (flft κ q) ∷ others ∷ []

  walk : Asks E Z a start len p right → len < 2 ^ 64
      → ent 𝓤 (⋆ 𝓛 Given) (WpFn 𝓤 H C Λ (function E Z) (vptr rb ro ∷ word start.ptr ∷ vint w64 len ∷ mark ∷ mark ∷ []) Post)
  walk asked fits =
      let s = size E in let alignment : ℕ = capped (align (elτ E)) in let long = asked.1 in
      qed 𝓛 Given ∵ enter ! C Λ (function E Z) (vptr rb ro ∷ word start.ptr ∷ vint w64 len ∷ mark ∷ mark ∷ []) _ $
      alloc_all ! (λ l. pass_all ! refl ((tt, tt), (word-Good [] start.ptr, ((tt, record { fits = fits }), ((tt, (tt, tt)), ((tt, (tt, tt)), tt))))) $
      let En : Env 𝓤 H = env (function E Z).locals l in
      rewrite ! 0 (λ (at : Ptr). ‵ (places_owned (R E) at p.slots)) asked.0 refl $
      in_a_block ! start.ptr (λ at. places_owned (R E) at p.slots) (id⊢ 𝓤 (never 𝓤)) (λ b o e. fsplit ! $ flt_l ! (λ fit.
      let small : len * s < 2 ^ 63 = subst (λ k. k * s < 2 ^ 63) long fit in let bytes : len * s < 2 ^ 64 = omega (arith, small) in
      let y : (Gives Z 𝓛 at_mem run).Ghost = at_gives Z 𝓛 at_mem run κ q (rb, ro) a b o (len * s) alignment (block_ty E len) in
      rewrite ! 1 (λ (d : Z.row.Denot × Ptr × ℕ). ‵ (freeing (R E) (token Z d.0) d.1 d.2)) (λ i. (asked.4 i, (asked.2 ∙ e) i, asked.3 i)) refl $
      use1 𝓛 (‵ (froom (ty_array (elτ E) (length p.slots)) b o)) (row_to_room E 𝓛 b p.slots o) $ rewrite ! 0
      (λ (k : ℕ). ‵ (froom (ty_array (elτ E) k) b o)) long refl $ as_raw ! (ty_array (elτ E) len) b o $
      -- [the room; the token; the allocator, lent; the token of κ; the other tokens]
      first ! $ blocks ! $
      sets ! (is ! (of_opd ! (get_in ! (fld ! refl (stop !)) (sub ! 0 refl (whole !)))) (ap ptr_val e)) refl (tt, tt) $
      sets ! (is ! (bin ! (get ! refl) (size_word !) (record { fits = subst (λ (k : ℕ). k < 2 ^ 64) (sym (uncapped len s bytes)) bytes }))
      (ap (vint w64) (uncapped len s bytes))) refl (tt, record { fits = bytes }) $
      group ! 4 $ use1 𝓛 (raw ((Gives Z 𝓛 at_mem run).pre y))
      (Gives-goes Z 𝓛 at_mem run κ q (rb, ro) a (Incl-trans short within) b o (len * s) alignment (block_ty E len) (block_size E len bytes)
      (block_align E len) bytes (capped_fits (align (elτ E)))) $
      calls_at_last ! fm (Gives Z 𝓛 at_mem run) callee y
      (and_then ! (get ! refl) (and_then ! (get ! refl) (and_then ! (get ! refl) (and_then ! (align_word !) (no_more !))))) (λ v.
      use1 𝓛 (later (given (v ≡ vunit) (‵ (flft κ q)))) (Gives-Gives Z 𝓛 at_mem run κ q (rb, ro) a b o (len * s) alignment (block_ty E len) v) $ await ! tt $
      learn ! (λ is_unit.
      lands_last ! refl (subst (λ (z : Val). T (has_ty ty_unit z) × WT z) (sym is_unit) (tt, tt)) $ exec ! C Λ En (after 1 (function E Z).body)
      (at_ret En Post) $
      sets ! (of_opd ! (unit_lit !)) refl (tt, tt) $ returns ! (look_at ! 0 refl) $ free_all ! refl $ keep ! (0 ∷ 1 ∷ []) $ by ! at_end)))))

  entry : Asks E Z a start len p right → ent 𝓤 (on_entry 𝓛 (ended E Z).signature (κ, (κ₁, (κ₂, tt))) (q, (q₁, (q₂, tt)))
      (handle, (start, (len, (p, (right, tt))))) (vs0, (vs1, (vs2, (vs3, (vs4, tt))))))
      (WpFn 𝓤 H C Λ (function E Z) (vs0 ++ (vs1 ++ (vs2 ++ (vs3 ++ (vs4 ++ []))))) Post)
  entry asked =
      qed 𝓛 ((‵ (flft κ q) ⊛ others) ∷ ‵ (owns (ShrRef (named 0) κ (P E Z) ∷ St E ∷ usize ∷ Pl E ∷ Fr E Z ∷ []) (handle, (start, (len, (p, (right, tt)))))
      (vs0, (vs1, (vs2, (vs3, (vs4, tt)))))) ∷ []) ∵
      split ! $ move ! (2 ∷ []) $ fsplit3 ! $ fsplit ! $ feq_l !
      (λ e0. move ! (1 ∷ []) $ start_had ! start.ptr vs1 (λ e1. move ! (1 ∷ []) $ fsplit3 ! $ fsplit ! $ feq_l ! (λ e2. flt_l ! (λ fits.
      fsplit ! $ mark_had ! E vs3 (λ e3. move ! (1 ∷ []) $ fsplit ! $ fsplit ! $ mark_had ! E vs4 (λ e4. keep ! (2 ∷ 0 ∷ 3 ∷ 4 ∷ 5 ∷ []) $
      by ! (subst (λ (vss : List Val × List Val × List Val × List Val × List Val). ent 𝓤 (⋆ 𝓛 Given)
      (WpFn 𝓤 H C Λ (function E Z) (vss.0 ++ (vss.1 ++ (vss.2 ++ (vss.3 ++ (vss.4 ++ []))))) Post))
      (λ i. (sym e0 i, sym e1 i, sym e2 i, sym e3 i, sym e4 i)) (walk asked fits))))))))

meets : (E : El) (Z : Al) {M : Type 1} {𝓤 : Ura M} (𝓛 : Logic 𝓤) (at_mem : Memory → SProp 𝓤) (run : Routine → Fun 𝓤) (𝓣 : Tables 𝓤 𝓛.H)
    → Triple 𝓤 (𝓣.C (gives_key Z)) (Gives Z 𝓛 at_mem run)
    → Meets 𝓛 (ended E Z).signature (WpFn 𝓤 𝓛.H 𝓣.C 𝓣.Λ (function E Z)) (closing 𝓛 (ended E Z) (clauses E Z 𝓛 at_mem run))
meets E Z {𝓤 = 𝓤} 𝓛 at_mem run 𝓣 callee =
    let Run = WpFn 𝓤 𝓛.H 𝓣.C 𝓣.Λ (function E Z) in
    walk_Meets 𝓛 (ended E Z) (stayed E Z) (
      Goes-dropped 𝓛 3 (RefOf (0 ∷ []) tt (plain (λ _. P E Z)) (λ _. tt)) yes (λ κs x f. refl),
      (
        Goes-dropped 𝓛 3 (plain (λ _. St E)) no (λ κs x f. refl),
        (
          Goes-dropped 𝓛 3 (plain (λ _. usize)) yes (λ κs x f. refl),
          (Goes-blank 𝓛 3 (plain (λ _. Pl E)) no (λ κs x f. tt), (Goes-blank 𝓛 3 (plain (λ _. Fr E Z)) no (λ κs x f. tt), tt)),
        ),
      ),
    ) (clauses E Z 𝓛 at_mem run) Run (WpFn-mono 𝓤 𝓛.H 𝓛.laws 𝓣 (function E Z)) (λ z.
    let κs = z.0.0 in let qs = z.0.1 in let a = z.0.3 in let vs = z.0.4 in let handle = a.0 in let start = a.1.0 in let len = a.1.1.0 in let p = a.1.1.1.0 in
    let right = a.1.1.1.1.0 in
    let On : SProp 𝓤 = on_entry 𝓛 (ended E Z).signature κs qs a vs in let asks = Asks E Z handle.now start len p right in
    second 𝓤 (κs.1.0 ⊑ E.row.lives) (κs.1.1.0 ⊑ Z.row.lives) On (fact 𝓤 asks) (λ within. needs 𝓤 asks On
    (entry E Z 𝓛 at_mem run 𝓣.C 𝓣.Λ (fm_of 𝓤 𝓛.H 𝓛.laws 𝓣) callee κs.0 κs.1.0 κs.1.1.0 qs.0 qs.1.0 qs.1.1.0 z.0.2.0 within handle.ref_ptr.0 handle.ref_ptr.1
    handle.now start len p right vs.0 vs.1.0 vs.1.1.0 vs.1.1.1.0 vs.1.1.1.1.0)))

pub release_spec : {M : Type 1} → stated.statement M
unfolding tables_of
release_spec 𝓤 𝓛 𝓜 𝓡 wired X W LX LW g d dd met md =
    let E : El = record { row = X; laws = LX } in let Z : Al = record { row = W; laws = LW; g = g; d = d; drops = dd } in
    let 𝓣 : Tables 𝓤 𝓛.H = tables_of 𝓤 𝓛.H 𝓜 (tables 𝓤 𝓛.H 𝓜 𝓡 𝓡.env) in
    entered 𝓤 𝓛.H (triple_of 𝓛 (ended E Z).signature (contract.spec X W g d dd 𝓛 𝓜.mem 𝓡.returns)) 𝓣.C 𝓣.Λ (#self (pair E Z)) (function E Z)
    (code.unfolded 𝓤 𝓛.H 𝓜 𝓡 wired (X, (W, tt)) d dd)
    (meets E Z 𝓛 𝓜.mem 𝓡.returns 𝓣 (met.deallocate dd))
