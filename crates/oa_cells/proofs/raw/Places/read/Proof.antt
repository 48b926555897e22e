-- `read` moves a value out, and leaves its place empty. Assumes `Logic`.
use Rattle.oa_cells.proofs.Steps.{◌≡◌, refl, sym, subst, ◌∙◌, ℕ, ◌+◌, ◌*◌, ◌<◌, ◌^◌, arith, List, [], ◌∷◌, ◌++◌, length, set, get_or}
use Rattle.oa_cells.proofs.Steps.{length-set, Ura, full_share, SProp, ent, never, id⊢, Lft, GName, Share, ftrue, fat, flft, fobs, fbor}
use Rattle.oa_cells.proofs.Steps.{froom, Fn, named, w64, inst_fn, Val, vptr, vint, Env, Calls, Loops, WpFn, Tables, Logic, Lent_body, fact}
use Rattle.oa_cells.proofs.Steps.{tables, tables_of, WpFn-mono, Item, ⋆, at_ret, ‵, ◌⊛◌, some, given, learn, pick, ◌$◌, ◌∵◌, !, qed, by}
use Rattle.oa_cells.proofs.Steps.{move, keep, use1, use2, split, join, rewrite, frame, fsplit, fsplit3, fjoin, fjoin3, feq_i, feq_l, flt_i}
use Rattle.oa_cells.proofs.Steps.{flt_l, suffices, done, whole, sub, look, load, stop, fld, of_opd, bin, first, blocks, exec, returns}
use Rattle.oa_cells.proofs.Steps.{enter, size_lit, alloc_all, pass_all, free_all, look_at, take_at, give_at, get, get_in, through, sets}
use Rattle.oa_cells.proofs.Steps.{sets_last, env, yes, no, owns, mem, layout, Ptr, in_a_block, MutBor, MutRef, RefMutOf, usize, plain}
use Rattle.oa_cells.proofs.Steps.{nothing, opens, closes, spared, Clauses, Ended, closing, on_entry, Meets, triple_of, entered, run_framed}
use Rattle.oa_cells.proofs.Steps.{says, needs, Stays, stay_dropped, stay_ref, walk_of, ends_at, Goes-dropped, Goes-ref, walk_Meets, Some}
use Rattle.oa_cells.proofs.Steps.{None, El, R, args, el_x, elτ, times_below, one_below, as_raw, Good, word, word-Good, after}
use Rattle.oa_cells.specs.Places.{HasValue}
use Rattle.oa_cells.specs.Ownership.{place_owned, row_owned, places_owned}
use Rattle.oa_cells.proofs.Rows.{Pl, St, size, Slot, start_had, value_out, value_within, Without, take_place, put_place}
use Rattle.oa_cells.specs.contracts.raw.Places.read.Key.{name as #self}
use Rattle.oa_cells.proofs.raw.Places.read.Statement as stated
use Rattle.oa_cells.proofs.raw.Places.read.Code as code

module _ (E : El) where
  abbrev function : Fn
  function = inst_fn (args E) code.function

  abbrev ended : Ended
  ended = record {
    signature = record {
      lifetimes = 1;
      outlives = [];
      params = RefMutOf (0 ∷ []) tt (plain (λ _. Pl E)) (λ _. tt) ∷ plain (λ _. St E) ∷ plain
          (λ _. usize) ∷ [];
      result = plain (λ _. R E);
    };
    kept = (yes, (no, (no, tt)));
  }

  abbrev stayed : Stays ended.signature.params ended.kept
  stayed = (stay_ref (0 ∷ []) tt (plain (λ _. Pl E)), (stay_dropped (plain (λ _. St E)) no, (stay_dropped (plain (λ _. usize)) no, tt)))

  abbrev Asks : (Pl E).Denot → (St E).Denot → ℕ → Type 0
  Asks p start index = (start.ptr ≡ p.at) × HasValue p.slots index

  abbrev Tells : (Pl E).Denot → ℕ → el_x E → (Pl E).Denot → Type 0
  Tells p index x new = (get_or p.slots index None ≡ Some x) × (new.at ≡ p.at) × (new.slots ≡ set p.slots index None)

  abbrev spec : {M : Type 1} {𝓤 : Ura M} (𝓛 : Logic 𝓤) → Clauses 𝓤 ended
  spec {𝓤 = 𝓤} 𝓛 κs a = record {
    ghost = Unit {0};
    requires = λ _. fact 𝓤 (Asks a.0.now a.1.0 a.1.1.0);
    ensures = λ _ r w. fact 𝓤
        (Tells a.0.now a.1.1.0 r w.0.now);
  }

module _ (E : El) {M : Type 1} {𝓤 : Ura M} (𝓛 : Logic 𝓤) (C : Calls 𝓤 𝓛.H) (Λ : Loops 𝓤 𝓛.H) (κ : Lft) (q : Share) (rb ro : ℕ) (γ : GName)
    (p : (Pl E).Denot) (start : (St E).Denot) (index : ℕ) (vs0 vs1 vs2 : List Val) where
  open 𝓛 use {H, A}

  abbrev self : MutBor (Pl E).Denot
  self = record { ref_ptr = (rb, ro); ghost_name = γ; now = p }

  abbrev bound : (walk_of 𝓛 (ended E) (stayed E) (spec E 𝓛)).Ghost
  bound = (((κ, tt), (q, tt), tt, (self, (start, (index, tt))), (vs0, (vs1, (vs2, tt)))), tt)

  abbrev Post : Val → SProp 𝓤
  Post = (walk_of 𝓛 (ended E) (stayed E) (spec E 𝓛)).post bound

  -- the borrow of the places, at the value that they have: its observation, the borrow, its lifetime's token
  abbrev Borrow : (Pl E).Denot → List (Item 𝓤) → List (Item 𝓤)
  Borrow now rest = ‵ (fobs γ ((Pl E).coded.code now)) ∷ ‵ (fbor κ (Lent_body (mem (Pl E)) rb ro γ)) ∷ ‵ (flft κ q) ∷ rest

  at_end : vs0 ≡ vptr rb ro ∷ [] → (x : el_x E) (v : Val) (new : (Pl E).Denot) → Tells E p index x new
      → ent 𝓤 (⋆ 𝓛 (Borrow new (‵ ((R E).own_val x (v ∷ [])) ∷ []))) (Post v)
  at_end passed x v new gives =
      qed 𝓛 (Borrow new (‵ ((R E).own_val x (v ∷ [])) ∷ [])) ∵
      suffices ! _ (ends_at 𝓛 (ended E) (stayed E) (spec E 𝓛) bound v x (new, (tt, (tt, tt))) (tt, (tt, (tt, tt)))) $ says ! gives $
      nothing ! $ move ! (3 ∷ 0 ∷ []) $ join ! $ frame ! $ feq_i ! (List Val) vs0 (vptr rb ro ∷ []) passed $ fjoin3 ! $
      nothing ! $ nothing ! $ fjoin ! $ nothing ! $ fjoin ! $ move ! (1 ∷ 0 ∷ []) $ fjoin ! $ done !

  walk : vs0 ≡ vptr rb ro ∷ [] → Asks E p start index → index < 2 ^ 64
      → ent 𝓤 (⋆ 𝓛 (Borrow p [])) (WpFn 𝓤 H C Λ (function E) (vptr rb ro ∷ word start.ptr ∷ vint w64 index ∷ []) Post)
  walk passed asked fits =
      let s = size E in let n = length p.slots in let x = asked.1.0 in let within = value_within p.slots index x asked.1.1 in
      let new : (Pl E).Denot = record { mark = p.mark; at = p.at; slots = set p.slots index None } in
      qed 𝓛 (Borrow p []) ∵ enter ! C Λ (function E) (vptr rb ro ∷ word start.ptr ∷ vint w64 index ∷ []) _ $
      alloc_all ! (λ l. pass_all ! refl ((tt, tt), (word-Good [] start.ptr, ((tt, record { fits = fits }), tt))) $
      let En : Env 𝓤 H = env (function E).locals l in
      opens ! tt (Pl E) {h = p} rb ro (λ us. move ! (1 ∷ []) $ fsplit ! $ move ! (1 ∷ []) $
      in_a_block ! p.at (λ at. places_owned (R E) at p.slots) (id⊢ 𝓤 (never 𝓤)) (λ b o e. fsplit ! $ flt_l ! (λ small.
      let place = index * s + o in
      let small_size : s < 2 ^ 64 = omega (arith, one_below n s (2 ^ 63) (omega (arith, within)) small) in
      let offset : index * s < 2 ^ 64 = omega (arith, times_below index n s (2 ^ 63) (omega (arith, within)) small) in
      take_at ! 2 $ rewrite ! 0 (λ (at : Ptr). ‵ (fat full_share (layout (St E)) (l 2) 0 (word at))) (asked.0 ∙ e) refl $ give_at ! 2 $ first ! $ blocks ! $
      sets ! (bin ! (get ! refl) (size_lit ! (record { fits = small_size })) (record { fits = offset })) refl (tt, record { fits = offset }) $
      sets ! (bin ! (get_in ! (fld ! refl (stop !)) (sub ! 0 refl (whole !))) (get ! refl) tt) refl (tt, tt) $
      use1 𝓛 (‵ (place_owned (R E) b place (get_or p.slots index None)) ⊛ ‵ (Without E 𝓛 b index o p.slots))
      (take_place E 𝓛 b p.slots index o place within refl) $ split ! $
      rewrite ! 0 (λ (slot : Slot E). ‵ (place_owned (R E) b place slot)) asked.1.1 refl $
      use1 𝓛 (some (λ (v : Val). given (Good (elτ E) v) (‵ (fat full_share (elτ E) b place v) ⊛ ‵ (E.row.own_val x (v ∷ [])))))
      (value_out E.row E.laws 𝓛 x b place) $
      pick ! (λ v. learn ! (λ good. split ! $ sets_last ! (of_opd ! (load ! (through ! refl (stop !)) (look ! 0 refl))) refl good $
      -- [the value's cell; what it owns; the other places; the mark; its cell; the open borrow, in three entries]
      exec ! C Λ En (after 1 (function E).body) (at_ret En Post) $ sets ! (of_opd ! (get ! refl)) refl good $
      use1 𝓛 (‵ (froom (elτ E) b place)) (𝓛.laws.at_room (elτ E) b place v) $ as_raw ! (elτ E) b place $ move ! (0 ∷ 2 ∷ 3 ∷ 4 ∷ 5 ∷ 6 ∷ 7 ∷ []) $
      use2 𝓛 (‵ (row_owned (R E) b o new.slots)) (put_place E 𝓛 b p.slots index o place within refl None) $
      flt_i ! (length new.slots * s) (2 ^ 63) (subst (λ k. k * s < 2 ^ 63) (sym (length-set p.slots index None)) small) $ fjoin ! $
      rewrite ! 0 (λ (at : Ptr). ‵ (places_owned (R E) at new.slots)) (sym e) refl $ move ! (1 ∷ 0 ∷ []) $ fjoin ! $ move ! (1 ∷ 0 ∷ []) $ closes ! tt
      (Pl E) new us rb ro $
      returns ! (look_at ! 0 refl) $ free_all ! refl $ keep ! (0 ∷ 1 ∷ 2 ∷ 3 ∷ []) $ by ! (at_end passed x v new (asked.1.1, refl, refl))))))))

  entry : Asks E p start index → ent 𝓤 (on_entry 𝓛 (ended E).signature (κ, tt) (q, tt) (self, (start, (index, tt)))
      (vs0, (vs1, (vs2, tt)))) (WpFn 𝓤 H C Λ (function E) (vs0 ++ (vs1 ++ (vs2 ++ []))) Post)
  entry asked =
      qed 𝓛 ((‵ (flft κ q) ⊛ ‵ ftrue) ∷ ‵ (owns (MutRef (named 0) κ (Pl E) ∷ St E ∷ usize ∷ []) (self, (start, (index, tt))) (vs0, (vs1, (vs2, tt)))) ∷ []) ∵
      split ! $ move ! (2 ∷ []) $ fsplit ! $ fsplit3 ! $ feq_l !
      (λ e0. move ! (2 ∷ []) $ fsplit ! $ start_had ! start.ptr vs1 (λ e1. fsplit ! $ fsplit ! $ feq_l ! (λ e2. flt_l ! (λ fits.
      keep ! (1 ∷ 2 ∷ 3 ∷ []) $
      by ! (subst (λ (vss : List Val × List Val × List Val). ent 𝓤 (⋆ 𝓛 (Borrow p [])) (WpFn 𝓤 H C Λ (function E) (vss.0 ++ (vss.1 ++ (vss.2 ++ []))) Post))
      (λ i. (sym e0 i, sym e1 i, sym e2 i)) (walk e0 asked fits))))))

meets : (E : El) {M : Type 1} {𝓤 : Ura M} (𝓛 : Logic 𝓤) (𝓣 : Tables 𝓤 𝓛.H)
    → Meets 𝓛 (ended E).signature (WpFn 𝓤 𝓛.H 𝓣.C 𝓣.Λ (function E)) (closing 𝓛 (ended E) (spec E 𝓛))
meets E {𝓤 = 𝓤} 𝓛 𝓣 =
    let Run = WpFn 𝓤 𝓛.H 𝓣.C 𝓣.Λ (function E) in
    walk_Meets 𝓛 (ended E) (stayed E) (
      Goes-ref 𝓛 1 0 tt (plain (λ _. Pl E)),
      (Goes-dropped 𝓛 1 (plain (λ _. St E)) no (λ κs x f. refl), (Goes-dropped 𝓛 1 (plain (λ _. usize)) no (λ κs x f. refl), tt)),
    ) (spec E 𝓛) Run (WpFn-mono 𝓤 𝓛.H 𝓛.laws 𝓣 (function E)) (λ z.
    let a = z.0.3 in let vs = z.0.4 in let self = a.0 in
    needs 𝓤 (Asks E self.now a.1.0 a.1.1.0) _
    (entry E 𝓛 𝓣.C 𝓣.Λ z.0.0.0 z.0.1.0 self.ref_ptr.0 self.ref_ptr.1 self.ghost_name self.now a.1.0 a.1.1.0 vs.0 vs.1.0 vs.1.1.0))

pub read_spec : {M : Type 1} → stated.statement M
unfolding tables_of
read_spec 𝓤 𝓛 𝓜 𝓡 wired X LX y =
    let E : El = record { row = X; laws = LX } in let key = #self (args E) in let c = closing 𝓛 (ended E) (spec E 𝓛) in
    let 𝓣 : Tables 𝓤 𝓛.H = tables_of 𝓤 𝓛.H 𝓜 (tables 𝓤 𝓛.H 𝓜 𝓡 𝓡.env) in
    spared 𝓛 (ended E).signature (𝓡.run (𝓡.env key)) (run_framed 𝓤 𝓛.H 𝓜 𝓡 (𝓡.env key)) 1 (X.lives, tt) c
    (entered 𝓤 𝓛.H (triple_of 𝓛 (ended E).signature c) 𝓣.C 𝓣.Λ key (function E) (code.unfolded 𝓤 𝓛.H 𝓜 𝓡 wired (X, tt)) (meets E 𝓛 𝓣))
    ((y.0.0, y.0.1, tt, y.0.3, y.0.4), y.1)
