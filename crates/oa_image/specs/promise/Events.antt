-- The images of events: a byte for the kind, and the event's fields (this project's choice).
use Rattle.std.proofs.Common.{◌≡◌, ℕ, ℤ, eqb, List, [], refl, sym, ◌∙◌, arith}
use Rattle.std.specs.Prelude.{◌==◌, pos}
use Rattle.std.proofs.lemmas.Bool.{eqb-true}
use Rattle.oa_model.specs.declared.bound.Bound.{Bound}
use Rattle.oa_variant.specs.declared.scalar.Scalar.{Scalar}
use Rattle.oa_variant.specs.declared.scalar.Scalar.TheVariants as scalars
use Rattle.oa_variant.specs.declared.variant.Variant.{Variant}
use Rattle.oa_variant.specs.declared.variant.Variant.TheVariants as variants
use Rattle.oa_variant.specs.promise.Variants.{no_indices}
use Rattle.oa_table.specs.declared.name.CellName.{CellName}
use Rattle.oa_table.specs.declared.event.Event.{Event}
use Rattle.oa_table.specs.declared.event.Event.TheVariants.{Create, Release, Put, PutElement, Redim}
use Rattle.oa_formats.specs.promise.Formats.{Format, ◌▸◌, tagged, never, case, pick, picked, counted}
use Rattle.oa_formats.specs.promise.Numbers.{u8, u16, u32, i32, guid_format}
use Rattle.oa_formats.specs.promise.Values.{scalar_format}
use Rattle.oa_formats.specs.promise.Arrays.{bound_format}
use Rattle.oa_formats.specs.promise.Variants.{value}
use Rattle.oa_image.specs.promise.Names.{name}

abbrev pub event_kind : Event → ℕ
event_kind (Create number class) = 1
event_kind (Release number) = 2
event_kind (Put n v) = 3
event_kind (PutElement n i v) = 4
event_kind (Redim n b) = 5

-- a field of an event; for an event of another kind any
abbrev pub event_number : Event → ℕ
event_number (Create number class) = number
event_number (Release number) = number
event_number e = 0

abbrev pub event_class : Event → List ℕ
event_class (Create number class) = class
event_class e = []

abbrev pub name_in : Event → CellName
name_in (Put n v) = n
name_in (PutElement n i v) = n
name_in (Redim n b) = n
name_in e = record { object = 0; place = record { interface = []; dispid = pos 0; key = [] } }

abbrev pub event_value : Event → Variant
event_value (Put n v) = v
event_value e = variants.One scalars.Empty

abbrev pub index_in : Event → List ℤ
index_in (PutElement n i v) = i
index_in e = []

abbrev pub event_element : Event → Scalar
event_element (PutElement n i v) = v
event_element e = scalars.Empty

abbrev pub bound_in : Event → Bound
bound_in (Redim n b) = b
bound_in e = no_indices

pub is_create : (e : Event) → event_kind e ≡ 1 → Create (event_number e) (event_class e) ≡ e
is_create (Create number class) is = refl
is_create e is = absurd (omega (arith, is))

pub is_release : (e : Event) → event_kind e ≡ 2 → Release (event_number e) ≡ e
is_release (Release number) is = refl
is_release e is = absurd (omega (arith, is))

pub is_put : (e : Event) → event_kind e ≡ 3 → Put (name_in e) (event_value e) ≡ e
is_put (Put n v) is = refl
is_put e is = absurd (omega (arith, is))

pub is_put_element : (e : Event) → event_kind e ≡ 4 → PutElement (name_in e) (index_in e) (event_element e) ≡ e
is_put_element (PutElement n i v) is = refl
is_put_element e is = absurd (omega (arith, is))

pub is_redim : (e : Event) → event_kind e ≡ 5 → Redim (name_in e) (bound_in e) ≡ e
is_redim (Redim n b) is = refl
is_redim e is = absurd (omega (arith, is))

unfoldable pub create : Format Event
create =
    case event_kind 1 (λ p. Create p.0 p.1) (λ e. (event_number e, event_class e)) (u32 ▸ guid_format) (λ p is. refl)
    (λ p. refl) is_create

unfoldable pub release : Format Event
release = case event_kind 2 (λ n. Release n) event_number u32 (λ n is. refl) (λ n. refl) is_release

unfoldable pub put : Format Event
put =
    case event_kind 3 (λ p. Put p.0 p.1) (λ e. (name_in e, event_value e)) (name ▸ value) (λ p is. refl)
    (λ p. refl) is_put

unfoldable pub indices_format : Format (List ℤ)
indices_format = counted u16 i32

unfoldable pub put_element : Format Event
put_element =
    case event_kind 4 (λ p. PutElement p.0 p.1.0 p.1.1) (λ e. (name_in e, (index_in e, event_element e)))
    (name ▸ indices_format ▸ scalar_format)
    (λ p is. refl) (λ p. refl) is_put_element

unfoldable pub redim : Format Event
redim =
    case event_kind 5 (λ p. Redim p.0 p.1) (λ e. (name_in e, bound_in e)) (name ▸ bound_format) (λ p is. refl)
    (λ p. refl) is_redim

unfoldable pub of_kind : ℕ → Format Event
of_kind n =
    pick (n == 1) create
    (pick (n == 2) release (pick (n == 3) put (pick (n == 4) put_element (pick (n == 5) redim never))))

pub kind_agrees : (n : ℕ) (e : Event) → (of_kind n).Is e → event_kind e ≡ n
unfolding of_kind create release put put_element redim never case
kind_agrees n e h =
    picked (eqb n 1) _ _ e _ (λ b is. is.0 ∙ sym (eqb-true n 1 b))
    (λ _ h. picked (eqb n 2) _ _ e _ (λ b is. is.0 ∙ sym (eqb-true n 2 b)) (λ _ h.
    picked (eqb n 3) _ _ e _ (λ b is. is.0 ∙ sym (eqb-true n 3 b))
    (λ _ h. picked (eqb n 4) _ _ e _ (λ b is. is.0 ∙ sym (eqb-true n 4 b)) (λ _ h.
    picked (eqb n 5) _ _ e _ (λ b is. is.0 ∙ sym (eqb-true n 5 b)) (λ _ h. absurd h) h) h) h) h) h

unfoldable pub event : Format Event
event = tagged event_kind u8 of_kind kind_agrees

-- the bytes of an event
abbrev pub event_image : Event → List ℕ
event_image = event.image
