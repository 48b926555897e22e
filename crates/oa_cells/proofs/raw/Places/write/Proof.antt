-- `write` fills an empty place. Assumes `Logic`.
use Rattle.oa_cells.proofs.Steps.{◌≡◌, refl, sym, subst, ◌∙◌, ℕ, ◌+◌, ◌*◌, ◌<◌, ◌^◌, arith, List, [], ◌∷◌, ◌++◌, length, set, get_or}
use Rattle.oa_cells.proofs.Steps.{length-set, Ura, full_share, SProp, ent, never, id⊢, Lft, GName, Share, ftrue, fat, flft, fobs, fbor, Fn}
use Rattle.oa_cells.proofs.Steps.{named, w64, inst_fn, Val, vptr, vint, vunit, Env, Calls, Loops, WpFn, Tables, Logic, Lent_body, fact}
use Rattle.oa_cells.proofs.Steps.{tables, tables_of, WpFn-mono, Item, ⋆, at_ret, ‵, ◌⊛◌, ◌$◌, ◌∵◌, !, qed, by, move, keep, use1, use2}
use Rattle.oa_cells.proofs.Steps.{split, join, rewrite, frame, fsplit, fsplit3, fjoin, fjoin3, feq_i, feq_l, flt_i, flt_l, suffices, done}
use Rattle.oa_cells.proofs.Steps.{whole, sub, init, stop, fld, unit_lit, of_opd, bin, first, blocks, exec, assigns_last, returns, enter}
use Rattle.oa_cells.proofs.Steps.{size_lit, alloc_all, pass_all, free_all, look_at, take_at, give_at, get, get_in, through, sets, env, yes}
use Rattle.oa_cells.proofs.Steps.{no, owns, mem, layout, Ptr, in_a_block, MutBor, MutRef, RefMutOf, usize, unit, plain, nothing, opens}
use Rattle.oa_cells.proofs.Steps.{closes, spared, Clauses, Ended, closing, on_entry, Meets, triple_of, entered, run_framed, says, needs}
use Rattle.oa_cells.proofs.Steps.{Stays, stay_dropped, stay_ref, walk_of, ends_at, Goes-dropped, Goes-ref, walk_Meets, Some, None, El, R}
use Rattle.oa_cells.proofs.Steps.{args, el_x, elτ, times_below, one_below, as_written, Good, word, word-Good, after}
use Rattle.oa_cells.specs.Ownership.{place_owned, row_owned, places_owned}
use Rattle.oa_cells.proofs.Rows.{Pl, St, size, Slot, start_had, value_in, value_seen, Without, take_place, put_place}
use Rattle.oa_cells.specs.contracts.raw.Places.write.Key.{name as #self}
use Rattle.oa_cells.proofs.raw.Places.write.Statement as stated
use Rattle.oa_cells.proofs.raw.Places.write.Code as code

module _ (E : El) where
  abbrev function : Fn
  function = inst_fn (args E) code.function

  abbrev ended : Ended
  ended = record {
    signature = record {
      lifetimes = 1;
      outlives = [];
      params = RefMutOf (0 ∷ []) tt (plain (λ _. Pl E)) (λ _. tt) ∷ plain (λ _. St E) ∷ plain
          (λ _. usize) ∷ plain (λ _. R E) ∷ [];
      result = plain (λ _. unit);
    };
    kept = (yes, (no, (no, (no, tt))));
  }

  abbrev stayed : Stays ended.signature.params ended.kept
  stayed = (
    stay_ref (0 ∷ []) tt (plain (λ _. Pl E)),
    (stay_dropped (plain (λ _. St E)) no, (stay_dropped (plain (λ _. usize)) no, (stay_dropped (plain (λ _. R E)) no, tt))),
  )

  abbrev Asks : (Pl E).Denot → (St E).Denot → ℕ → Type 0
  Asks p start index = (start.ptr ≡ p.at) × (index < length p.slots) × (get_or p.slots index None ≡ None)

  abbrev Tells : (Pl E).Denot → ℕ → el_x E → (Pl E).Denot → Type 0
  Tells p index item new = (new.at ≡ p.at) × (new.slots ≡ set p.slots index (Some item))

  abbrev spec : {M : Type 1} {𝓤 : Ura M} (𝓛 : Logic 𝓤) → Clauses 𝓤 ended
  spec {𝓤 = 𝓤} 𝓛 κs a = record {
    ghost = Unit {0};
    requires = λ _. fact 𝓤 (Asks a.0.now a.1.0 a.1.1.0);
    ensures = λ _ r w. fact 𝓤
        (Tells a.0.now a.1.1.0 a.1.1.1.0 w.0.now);
  }

module _ (E : El) {M : Type 1} {𝓤 : Ura M} (𝓛 : Logic 𝓤) (C : Calls 𝓤 𝓛.H) (Λ : Loops 𝓤 𝓛.H) (κ : Lft) (q : Share) (rb ro : ℕ) (γ : GName)
    (p : (Pl E).Denot) (start : (St E).Denot) (index : ℕ) (item : el_x E) (vs0 vs1 vs2 vs3 : List Val) where
  open 𝓛 use {H, A}

  abbrev self : MutBor (Pl E).Denot
  self = record { ref_ptr = (rb, ro); ghost_name = γ; now = p }

  abbrev bound : (walk_of 𝓛 (ended E) (stayed E) (spec E 𝓛)).Ghost
  bound = (((κ, tt), (q, tt), tt, (self, (start, (index, (item, tt)))), (vs0, (vs1, (vs2, (vs3, tt))))), tt)

  abbrev Post : Val → SProp 𝓤
  Post = (walk_of 𝓛 (ended E) (stayed E) (spec E 𝓛)).post bound

  -- the borrow of the places, at the value that they have: its observation, the borrow, its lifetime's token
  abbrev Borrow : (Pl E).Denot → List (Item 𝓤)
  Borrow now = ‵ (fobs γ ((Pl E).coded.code now)) ∷ ‵ (fbor κ (Lent_body (mem (Pl E)) rb ro γ)) ∷ ‵ (flft κ q) ∷ []

  at_end : vs0 ≡ vptr rb ro ∷ [] → (new : (Pl E).Denot) → Tells E p index item new → ent 𝓤 (⋆ 𝓛 (Borrow new)) (Post vunit)
  at_end passed new gives =
      qed 𝓛 (Borrow new) ∵
      suffices ! _ (ends_at 𝓛 (ended E) (stayed E) (spec E 𝓛) bound vunit tt (new, (tt, (tt, (tt, tt)))) (tt, (tt, (tt, (tt, tt))))) $ says ! gives $
      nothing ! $ move ! (3 ∷ 0 ∷ []) $ join ! $ frame ! $ feq_i ! (List Val) vs0 (vptr rb ro ∷ []) passed $ fjoin3 ! $
      nothing ! $ nothing ! $ fjoin ! $ nothing ! $ fjoin ! $ nothing ! $ fjoin ! $ move ! (1 ∷ 0 ∷ []) $ fjoin ! $ feq_i ! (List Val) (vunit ∷ [])
      (vunit ∷ []) refl $ move ! (1 ∷ 0 ∷ []) $ done !

  abbrev Given : Val → List (Item 𝓤)
  Given v = ‵ (fobs γ ((Pl E).coded.code p)) ∷ ‵ (fbor κ (Lent_body (mem (Pl E)) rb ro γ)) ∷ ‵ (flft κ q) ∷ ‵ ((R E).own_val item (v ∷ [])) ∷ []

  walk : vs0 ≡ vptr rb ro ∷ [] → Asks E p start index → index < 2 ^ 64 → (v : Val) → Good (layout (R E)) v
      → ent 𝓤 (⋆ 𝓛 (Given v)) (WpFn 𝓤 H C Λ (function E) (vptr rb ro ∷ word start.ptr ∷ vint w64 index ∷ v ∷ []) Post)
  walk passed asked fits v good =
      let s = size E in let n = length p.slots in
      let new : (Pl E).Denot = record { mark = p.mark; at = p.at; slots = set p.slots index (Some item) } in
      qed 𝓛 (Given v) ∵ enter ! C Λ (function E) (vptr rb ro ∷ word start.ptr ∷ vint w64 index ∷ v ∷ []) _ $
      alloc_all ! (λ l. pass_all ! refl ((tt, tt), (word-Good [] start.ptr, ((tt, record { fits = fits }), (good, tt)))) $
      let En : Env 𝓤 H = env (function E).locals l in
      opens ! tt (Pl E) {h = p} rb ro (λ us. move ! (1 ∷ []) $ fsplit ! $ move ! (1 ∷ []) $
      in_a_block ! p.at (λ at. places_owned (R E) at p.slots) (id⊢ 𝓤 (never 𝓤)) (λ b o e. fsplit ! $ flt_l ! (λ small.
      let place = index * s + o in
      let small_size : s < 2 ^ 64 = omega (arith, one_below n s (2 ^ 63) (omega (arith, asked.1)) small) in
      let offset : index * s < 2 ^ 64 = omega (arith, times_below index n s (2 ^ 63) (omega (arith, asked.1)) small) in
      take_at ! 2 $ rewrite ! 0 (λ (at : Ptr). ‵ (fat full_share (layout (St E)) (l 2) 0 (word at))) (asked.0 ∙ e) refl $ give_at ! 2 $ first ! $ blocks ! $
      sets ! (bin ! (get ! refl) (size_lit ! (record { fits = small_size })) (record { fits = offset })) refl (tt, record { fits = offset }) $
      sets ! (bin ! (get_in ! (fld ! refl (stop !)) (sub ! 0 refl (whole !))) (get ! refl) tt) refl (tt, tt) $
      use1 𝓛 (‵ (place_owned (R E) b place (get_or p.slots index None)) ⊛ ‵ (Without E 𝓛 b index o p.slots))
      (take_place E 𝓛 b p.slots index o place asked.1 refl) $ split ! $
      rewrite ! 0 (λ (slot : Slot E). ‵ (place_owned (R E) b place slot)) asked.2 refl $ as_written ! (elτ E) b place $
      -- [the room; the other places; the mark; its cell; the open borrow, in three entries; what the item owns]
      sets ! (of_opd ! (get ! refl)) refl good $ assigns_last ! (of_opd ! (get ! refl)) (through ! refl (stop !)) (init ! 0 refl good) $
      exec ! C Λ En (after 1 (function E).body) (at_ret En Post) $ sets ! (of_opd ! (unit_lit !)) refl (tt, tt) $
      move ! (0 ∷ 7 ∷ []) $ use2 𝓛 (‵ (place_owned (R E) b place (Some item))) (value_in E.row E.laws 𝓛 item b place v) $
      use2 𝓛 (‵ (row_owned (R E) b o new.slots)) (put_place E 𝓛 b p.slots index o place asked.1 refl (Some item)) $
      flt_i ! (length new.slots * s) (2 ^ 63) (subst (λ k. k * s < 2 ^ 63) (sym (length-set p.slots index (Some item))) small) $ fjoin ! $
      rewrite ! 0 (λ (at : Ptr). ‵ (places_owned (R E) at new.slots)) (sym e) refl $ move ! (1 ∷ 0 ∷ []) $ fjoin ! $ move ! (1 ∷ 0 ∷ []) $ closes ! tt
      (Pl E) new us rb ro $
      returns ! (look_at ! 0 refl) $ free_all ! refl $ keep ! (0 ∷ 1 ∷ 2 ∷ []) $ by ! (at_end passed new (refl, refl))))))

  entry : Asks E p start index → ent 𝓤 (on_entry 𝓛 (ended E).signature (κ, tt) (q, tt) (self, (start, (index, (item, tt))))
      (vs0, (vs1, (vs2, (vs3, tt))))) (WpFn 𝓤 H C Λ (function E) (vs0 ++ (vs1 ++ (vs2 ++ (vs3 ++ [])))) Post)
  entry asked =
      qed 𝓛 ((‵ (flft κ q) ⊛ ‵ ftrue) ∷ ‵ (owns (MutRef (named 0) κ (Pl E) ∷ St E ∷ usize ∷ R E ∷ []) (self, (start, (index, (item, tt))))
      (vs0, (vs1, (vs2, (vs3, tt))))) ∷ []) ∵
      split ! $ move ! (2 ∷ []) $ fsplit ! $ fsplit3 ! $ feq_l !
      (λ e0. move ! (2 ∷ []) $ fsplit ! $ start_had ! start.ptr vs1 (λ e1. fsplit ! $ fsplit ! $ feq_l ! (λ e2. flt_l ! (λ fits.
      fsplit ! $ value_seen E.row E.laws ! item vs3 (λ v e3 good. keep ! (2 ∷ 3 ∷ 4 ∷ 0 ∷ []) $
      by ! (subst (λ (vss : List Val × List Val × List Val × List Val). ent 𝓤 (⋆ 𝓛 (Given v))
      (WpFn 𝓤 H C Λ (function E) (vss.0 ++ (vss.1 ++ (vss.2 ++ (vss.3 ++ [])))) Post))
      (λ i. (sym e0 i, sym e1 i, sym e2 i, sym e3 i)) (walk e0 asked fits v good)))))))

meets : (E : El) {M : Type 1} {𝓤 : Ura M} (𝓛 : Logic 𝓤) (𝓣 : Tables 𝓤 𝓛.H)
    → Meets 𝓛 (ended E).signature (WpFn 𝓤 𝓛.H 𝓣.C 𝓣.Λ (function E)) (closing 𝓛 (ended E) (spec E 𝓛))
meets E {𝓤 = 𝓤} 𝓛 𝓣 =
    let Run = WpFn 𝓤 𝓛.H 𝓣.C 𝓣.Λ (function E) in
    walk_Meets 𝓛 (ended E) (stayed E) (
      Goes-ref 𝓛 1 0 tt (plain (λ _. Pl E)),
      (
        Goes-dropped 𝓛 1 (plain (λ _. St E)) no (λ κs x f. refl),
        (Goes-dropped 𝓛 1 (plain (λ _. usize)) no (λ κs x f. refl), (Goes-dropped 𝓛 1 (plain (λ _. R E)) no (λ κs x f. refl), tt)),
      ),
    ) (spec E 𝓛) Run (WpFn-mono 𝓤 𝓛.H 𝓛.laws 𝓣 (function E)) (λ z.
    let a = z.0.3 in let vs = z.0.4 in let self = a.0 in
    needs 𝓤 (Asks E self.now a.1.0 a.1.1.0) _
    (entry E 𝓛 𝓣.C 𝓣.Λ z.0.0.0 z.0.1.0 self.ref_ptr.0 self.ref_ptr.1 self.ghost_name self.now a.1.0 a.1.1.0 a.1.1.1.0 vs.0 vs.1.0 vs.1.1.0 vs.1.1.1.0))

pub write_spec : {M : Type 1} → stated.statement M
unfolding tables_of
write_spec 𝓤 𝓛 𝓜 𝓡 wired X LX y =
    let E : El = record { row = X; laws = LX } in let key = #self (args E) in let c = closing 𝓛 (ended E) (spec E 𝓛) in
    let 𝓣 : Tables 𝓤 𝓛.H = tables_of 𝓤 𝓛.H 𝓜 (tables 𝓤 𝓛.H 𝓜 𝓡 𝓡.env) in
    spared 𝓛 (ended E).signature (𝓡.run (𝓡.env key)) (run_framed 𝓤 𝓛.H 𝓜 𝓡 (𝓡.env key)) 1 (X.lives, tt) c
    (entered 𝓤 𝓛.H (triple_of 𝓛 (ended E).signature c) 𝓣.C 𝓣.Λ key (function E) (code.unfolded 𝓤 𝓛.H 𝓜 𝓡 wired (X, tt)) (meets E 𝓛 𝓣))
    ((y.0.0, y.0.1, tt, y.0.3, y.0.4), y.1)
