-- What a session comes to where it was cut.
use Rattle.std.proofs.Common.{Result, Ok, Err, IfOk}

pub with_cut : {X E : Type 0} {A B C D : X → Type 0} (result : Result X E) → IfOk result A → IfOk result B → IfOk result C → ((x : X) → A x → B x → C x → D x)
    → IfOk result D
with_cut (Ok x) a b c all = all x a b c
with_cut (Err e) a b c all = tt
