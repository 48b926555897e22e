-- What a client brings is what a session of its own would have read.
use Rattle.std.proofs.Common.{◌≡◌, ◌⊎◌, ◌≤◌, ◌<◌, ℕ, zero, suc, ◌+◌, List, [], ◌∷◌, ◌++◌, length, take, drop, Option, Some, None, refl, sym, ap, ◌∙◌, inl}
use Rattle.std.proofs.Common.{inr, arith}
use Rattle.std.proofs.Common.{map}
use Rattle.std.proofs.lemmas.Bool.{cases_lt}
use Rattle.std.proofs.lemmas.List.{append-nil, append_assoc, length-append, length-drop, length-take-le, take_at, drop_at, take-append-drop}
use Rattle.std.specs.Int.{w32, from_le_bytes}
use Rattle.oa_model.specs.promise.Limits.{max_request_bytes}
use Rattle.oa_frame.specs.declared.ends.End.{End}
use Rattle.oa_frame.specs.declared.ends.End.TheVariants.{Closed, Cut, TooLong, BadHex, ReadFault, WriteFault}
use Rattle.oa_frame.specs.promise.Framings.{Length, NextRecord, RecordStop, SaysLength, records}
use Rattle.oa_frame.specs.promise.Sessions.{Bodies, ReadTo}
use Rattle.oa_frame.specs.promise.Sessions.Halt.{At}
use Rattle.oa_mux.specs.promise.Marks.{Last}
use Rattle.oa_mux.specs.Marks.{pieces}
use Rattle.oa_mux.specs.promise.Readers.{Body, Brought, Ends, Held, Over, ClientState, ended, records_of, said}
use Rattle.oa_mux.specs.Readers.{ClientBrings, IsEnd, IsPartRecord, IsWholeRecord, after_pieces, brought_in}
use Rattle.oa_mux.proofs.Records.{brings_end, brings_over, brings_part, brings_whole, brought_append, pieces_append}

-- what these bytes bring, and the end of the stream
brought_to_end : Option ClientState → List ℕ → List Brought
brought_to_end at bytes = brought_in records_of at (pieces bytes ++ Last ∷ [])

after_bytes : (at new : Option ClientState) (xs ys : List ℕ) (all : List Brought) → ClientBrings at xs all new
    → brought_to_end at (xs ++ ys) ≡ all ++ brought_to_end new ys
unfolding brought_to_end
after_bytes at new xs ys all b =
    ap (brought_in records_of at) (ap (λ l. l ++ Last ∷ []) (pieces_append xs ys) ∙ append_assoc (pieces xs) (pieces ys) (Last ∷ []))
    ∙ brought_append records_of at (pieces xs) (pieces ys ++ Last ∷ [])
    ∙ ap (λ l. l ++ brought_in records_of (after_pieces records_of at (pieces xs)) (pieces ys ++ Last ∷ [])) b.brought
    ∙ ap (λ (z : Option ClientState). all ++ brought_in records_of z (pieces ys ++ Last ∷ [])) b.after

-- the end where nothing is left to be read
at_last : (front : List ℕ) → brought_to_end (Some (Held front)) [] ≡ ended front ∷ []
unfolding brought_to_end brought_in pieces records_of
at_last front = refl

over_last : brought_to_end (Some Over) [] ≡ []
unfolding brought_to_end brought_in pieces records_of
over_last = refl

over_all : (bytes : List ℕ) → brought_to_end (Some Over) bytes ≡ []
over_all bytes = ap (brought_to_end (Some Over)) (sym (append-nil bytes)) ∙ after_bytes (Some Over) (Some Over) bytes [] [] (brings_over bytes) ∙ over_last

nothing_yet : Option ClientState
nothing_yet = Some (Held [])

-- a part of a record is all
part_all : (bytes : List ℕ) → IsPartRecord bytes → brought_to_end nothing_yet bytes ≡ ended bytes ∷ []
unfolding nothing_yet
part_all bytes p = ap (brought_to_end (Some (Held []))) (sym (append-nil bytes)) ∙ after_bytes (Some (Held [])) (Some (Held bytes)) bytes [] []
    (brings_part [] bytes p) ∙ at_last bytes

some_cut : (bytes : List ℕ) → 0 < length bytes → ended bytes ≡ Ends Cut
some_cut [] h = absurd (omega (arith, h))
some_cut (x ∷ xs) h = refl

-- an end
end_first : (why : End) (bytes rest : List ℕ) → IsEnd why bytes → 0 < length bytes → brought_to_end nothing_yet (bytes ++ rest) ≡ Ends why ∷ []
unfolding nothing_yet
end_first why [] rest e some = absurd (omega (arith, some))
end_first why (y ∷ ys) rest e some = after_bytes (Some (Held [])) (Some Over) (y ∷ ys) rest (Ends why ∷ []) (brings_end why [] y ys e)
    ∙ ap (λ l. Ends why ∷ l) (over_all rest)

said_first : (head more : List ℕ) (n : ℕ) → SaysLength head n → said (head ++ more) ≡ n
said_first head more n s = ap (from_le_bytes w32) (take_at head more 4 s.four) ∙ s.says

said_alone : (head : List ℕ) (n : ℕ) → SaysLength head n → said head ≡ n
said_alone head n s = ap said (sym (append-nil head)) ∙ said_first head [] n s

four_some : (head : List ℕ) (n : ℕ) → SaysLength head n → 0 < length head
four_some head n s = let four = s.four in omega (arith, four)

at_end : (why : End) (bytes rest : List ℕ) → RecordStop why bytes rest → (why ≡ ReadFault → ⊥) → brought_to_end nothing_yet bytes ≡ Ends why ∷ []
at_end Closed bytes rest (inl s) fair = ap (brought_to_end nothing_yet) s.0 ∙ part_all [] (inl (omega arith))
at_end Closed bytes rest (inr l) fair =
    ap (brought_to_end nothing_yet) l.whole ∙ end_first Closed l.head rest (l.says.four, said_alone l.head l.n l.says ∙ l.is) (four_some l.head l.n l.says)
at_end Cut bytes rest s fair = part_all bytes (by s.few) ∙ ap (λ (b : Brought). b ∷ []) (some_cut bytes s.some)
  where
    by : (length bytes < 4) ⊎ ((more : List ℕ) × Length (λ n. (0 < n) × (n ≤ max_request_bytes) × (length more < n)) bytes more) → IsPartRecord bytes
    by (inl h) = inl h
    by (inr l) =
        let n : said bytes ≡ l.1.n = ap said l.1.whole ∙ said_first l.1.head l.0 l.1.n l.1.says in
        let some = l.1.is.0 in
        let short = l.1.is.1 in
        let less = l.1.is.2 in
        let four = l.1.says.four in
        let len : length bytes ≡ length l.1.head + length l.0 = ap length l.1.whole ∙ length-append l.1.head l.0 in
        inr (record { some = omega (arith, n, some); short = omega (arith, n, short); few = omega (arith, n, less, four, len) })
at_end TooLong bytes rest l fair =
    let n = said_alone l.head l.n l.says in
    let long = l.is in
    ap (brought_to_end nothing_yet) l.whole ∙ end_first TooLong l.head rest (l.says.four, omega (arith, n, long)) (four_some l.head l.n l.says)
at_end (BadHex line) bytes rest s fair = absurd s
at_end ReadFault bytes rest s fair = absurd (fair refl)
at_end WriteFault bytes rest s fair = absurd s

whole_first : (bytes rest : List ℕ) → IsWholeRecord bytes → brought_to_end nothing_yet (bytes ++ rest) ≡ Body (drop 4 bytes) ∷ brought_to_end nothing_yet rest
unfolding nothing_yet
whole_first [] rest w = let all = w.all in absurd (omega (arith, all))
whole_first (y ∷ ys) rest w = after_bytes (Some (Held [])) (Some (Held [])) (y ∷ ys) rest (Body (drop 4 (y ∷ ys)) ∷ []) (brings_whole [] y ys w)

one_body : (bytes body rest : List ℕ) → NextRecord bytes body rest → brought_to_end nothing_yet bytes ≡ Body body ∷ brought_to_end nothing_yet rest
one_body bytes body rest n =
    let says = said_first n.head body (length body) n.says in
    let some = n.some in
    let short = n.short in
    let four = n.says.four in
    let len = length-append n.head body in
    let w : IsWholeRecord (n.head ++ body) = record {
      some = omega (arith, says, some);
      short = omega (arith, says, short);
      all = omega (arith, says, four, len);
    } in
    ap (brought_to_end nothing_yet) (n.whole ∙ sym (append_assoc n.head body rest))
    ∙ whole_first (n.head ++ body) rest w
    ∙ ap (λ l. Body l ∷ brought_to_end nothing_yet rest) (drop_at n.head body 4 four)

all_read : (why : End) (bodies : List (List ℕ)) (bytes mid rest : List ℕ) → Bodies records bytes bodies mid → RecordStop why mid rest → (why ≡ ReadFault → ⊥)
    → brought_to_end nothing_yet bytes ≡ map Body bodies ++ Ends why ∷ []
all_read why [] bytes mid rest b s fair = ap (brought_to_end nothing_yet) b ∙ at_end why mid rest s fair
all_read why (body ∷ bodies) bytes mid rest b s fair =
    one_body bytes body b.0 b.1 ∙ ap (λ l. Body body ∷ l) (all_read why bodies b.0 mid rest b.2 s fair)

not_there : (bytes : List ℕ) → brought_to_end None bytes ≡ brought_to_end nothing_yet bytes
unfolding brought_to_end nothing_yet brought_in pieces records_of
not_there [] = refl
not_there (x ∷ xs) = refl

pub as_a_session : (bytes rest : List ℕ) (bodies : List (List ℕ)) (why : End) → ReadTo records (At why) bodies bytes rest → (why ≡ ReadFault → ⊥)
    → brought_in records_of None (pieces bytes ++ Last ∷ []) ≡ map Body bodies ++ Ends why ∷ []
unfolding brought_to_end
as_a_session bytes rest bodies why r fair = not_there bytes ∙ all_read why bodies bytes r.0 rest r.1 r.2 fair

-- ---- and all bytes are read so
record Reading (bytes : List ℕ) : Type 0 where
  bodies : List (List ℕ)
  why : End
  rest : List ℕ
  read : ReadTo records (At why) bodies bytes rest
  fair : why ≡ ReadFault → ⊥

stopped : (why : End) (bytes rest : List ℕ) → RecordStop why bytes rest → (why ≡ ReadFault → ⊥) → Reading bytes
stopped why bytes rest s fair = record { bodies = []; why = why; rest = rest; read = (bytes, refl, s); fair = fair }

closed_fair : Closed ≡ ReadFault → ⊥
closed_fair e = cc

cut_fair : Cut ≡ ReadFault → ⊥
cut_fair e = cc

long_fair : TooLong ≡ ReadFault → ⊥
long_fair e = cc

one_more : (bytes body rest : List ℕ) → NextRecord bytes body rest → Reading rest → Reading bytes
one_more bytes body rest n r = record {
  bodies = body ∷ r.bodies;
  why = r.why;
  rest = r.rest;
  read = (r.read.0, (rest, n, r.read.1), r.read.2);
  fair = r.fair;
}

short_one : (bytes : List ℕ) → length bytes < 4 → Reading bytes
short_one [] h = stopped Closed [] [] (inl (refl, refl)) closed_fair
short_one (x ∷ xs) h = stopped Cut (x ∷ xs) [] (record { nothing = refl; some = omega arith; few = inl h }) cut_fair

-- a length, and what follows it
record Headed (bytes head more : List ℕ) (n : ℕ) : Type 0 where
  says : SaysLength head n
  whole : bytes ≡ head ++ more

headed_some : (bytes head more : List ℕ) (n : ℕ) → Headed bytes head more n → 0 < length bytes
headed_some bytes head more n h =
    let four = h.says.four in
    let len : length bytes ≡ length head + length more = ap length h.whole ∙ length-append head more in
    omega (arith, four, len)

next_of : (bytes head more : List ℕ) (n : ℕ) → Headed bytes head more n → 0 < n → n ≤ max_request_bytes → n ≤ length more
    → NextRecord bytes (take n more) (drop n more)
next_of bytes head more n h some short all =
    let len = length-take-le n more all in record {
      head = head;
      says = record { four = h.says.four; says = h.says.says ∙ sym len };
      some = omega (arith, some, len);
      short = omega (arith, short, len);
      whole = h.whole ∙ ap (λ l. head ++ l) (sym (take-append-drop n more));
    }

-- where four bytes say a length, and what follows is read
sized : (bytes : List ℕ) (n : ℕ) → Headed bytes (take 4 bytes) (drop 4 bytes) n → (n < 1) ⊎ (1 ≤ n) → (max_request_bytes < n) ⊎ (n ≤ max_request_bytes)
    → (length (drop 4 bytes) < n) ⊎ (n ≤ length (drop 4 bytes)) → ((rest : List ℕ) → length rest < length bytes → Reading rest) → Reading bytes
sized bytes n d (inl none) long all next =
    stopped Closed bytes (drop 4 bytes) (inr (record { head = take 4 bytes; n = n; says = d.says; is = omega (arith, none); whole = d.whole })) closed_fair
sized bytes n d (inr some) (inl long) all next =
    stopped TooLong bytes (drop 4 bytes) (record { head = take 4 bytes; n = n; says = d.says; is = long; whole = d.whole }) long_fair
sized bytes n d (inr some) (inr short) (inl less) next = stopped Cut bytes [] (record {
  nothing = refl;
  some = headed_some bytes (take 4 bytes) (drop 4 bytes) n d;
  few = inr (drop 4 bytes, record { head = take 4 bytes; n = n; says = d.says; is = (omega (arith, some), short, less); whole = d.whole });
}) cut_fair
sized bytes n d (inr some) (inr short) (inr all) next =
    let len = length-drop n (drop 4 bytes) in
    let len' = length-drop 4 bytes in
    let more = headed_some bytes (take 4 bytes) (drop 4 bytes) n d in
    one_more bytes (take n (drop 4 bytes)) (drop n (drop 4 bytes)) (next_of bytes (take 4 bytes) (drop 4 bytes) n d (omega (arith, some)) short all)
    (next (drop n (drop 4 bytes)) (omega (arith, len, len', more)))

four_or_less : (bytes : List ℕ) → (length bytes < 4) ⊎ (4 ≤ length bytes) → ((rest : List ℕ) → length rest < length bytes → Reading rest) → Reading bytes
four_or_less bytes (inl few) next = short_one bytes few
four_or_less bytes (inr four) next =
    let d : Headed bytes (take 4 bytes) (drop 4 bytes)
    (said bytes) = record { says = record { four = length-take-le 4 bytes four; says = refl }; whole = sym (take-append-drop 4 bytes) } in
    sized bytes (said bytes) d (cases_lt (said bytes) 1) (cases_lt max_request_bytes (said bytes)) (cases_lt (length (drop 4 bytes)) (said bytes)) next

reading : (fuel : ℕ) (bytes : List ℕ) → length bytes ≤ fuel → Reading bytes
reading zero bytes h = short_one bytes (omega (arith, h))
reading (suc fuel) bytes h = four_or_less bytes (cases_lt (length bytes) 4) (λ rest less. reading fuel rest (omega (arith, h, less)))

pub each_is_read : (bytes : List ℕ) → (bodies : List (List ℕ)) × (why : End) × (rest : List ℕ) × ReadTo records (At why) bodies bytes rest
    × (why ≡ ReadFault → ⊥)
each_is_read bytes = let r = reading (length bytes) bytes (omega arith) in (r.bodies, r.why, r.rest, r.read, r.fair)
