-- Each way that a request comes out.
use Prim.Native.Nat.{ℕ, ◌-◌}
use native.Mathlib.Omega.{arith}
use mathlib.Core.Path.{◌≡◌, refl, sym, ap, ◌∙◌}
use mathlib.Core.Bool.{Bool, true, false, cond, not, false≢true}
use mathlib.Core.List.{List, [], ◌∷◌, ◌++◌}
use lib.Dec.{eqb}
use lib.ListN.{length, drop}
use lib.Seq.{paste}
use Rattle.std.proofs.Common.{Option, Some, None, Result, Ok, Err}
use Rattle.std.proofs.lemmas.Option.{cond_some}
use Rattle.laws.specs.Choice.{each_of, all_of_lem}
use Rattle.frame.specs.Lengths.{frame_length}
use Rattle.frame.specs.declared.refusal.Refusal.{Refusal}
use Rattle.frame.specs.declared.refusal.Refusal.TheVariants.{ServiceType, TrailerFormat, PgnForm, PackRequest}
use Rattle.multi_pg.specs.Services.{is_service, service_of, is_group, has_trailer}
use Rattle.packing.specs.Packing.{Request, asked, body, padding, needed, services_ok, formats_ok, pgns_ok, trailers_ok, request_fits, fitted, first_fault, outcome, packed}
use Rattle.packing.specs.Shapes.{Met, request_met, padded}

-- ---- what the need tells

module _ (q : Request) (out need : ℕ) (e : Some need ≡ fitted q out) where
  pub fitted_true : request_fits q out ≡ true
  fitted_true = (cond_some (request_fits q out) (needed q) need (sym e)).0

  pub fitted_need : need ≡ needed q
  fitted_need = sym (cond_some (request_fits q out) (needed q) need (sym e)).1

  pub fitted_met : Met q out
  fitted_met = request_met q out fitted_true

pub fitted_none : (q : Request) (out : ℕ) → None ≡ fitted q out → request_fits q out ≡ false
fitted_none q out e = go (request_fits q out) refl
  where
    go : (t : Bool) → request_fits q out ≡ t → t ≡ false
    go false f = refl
    go true f = absurd (let n : None ≡ Some (needed q) = e ∙ ap (λ (t : Bool). cond t (Some (needed q)) None) f in cc)

-- ---- the refusals

pub packed_by : (q : Request) (o : List ℕ) (a b c d : Bool) → services_ok q.services ≡ a → formats_ok q.services q.formats ≡ b → pgns_ok q.pgns ≡ c
    → request_fits q (length o) ≡ d → outcome q o a b c d ≡ packed q o
unfolding packed
packed_by q o a b c d w x y z = rw (w, x, y, z) refl

-- a request that does not fit gets the first of the checks that it fails
pub faulty : (q : Request) (o : List ℕ) (r : Refusal) → r ≡ first_fault q.services q.formats q.pgns → request_fits q (length o) ≡ false → (Err r, o) ≡ packed q o
faulty q o r e f =
    ap (λ (r : Refusal). (Err r, o)) e ∙ go (services_ok q.services) (formats_ok q.services q.formats) (pgns_ok q.pgns) refl refl refl
  where
    go : (a b c : Bool) → services_ok q.services ≡ a → formats_ok q.services q.formats ≡ b → pgns_ok q.pgns ≡ c
        → (Err (cond (not a) ServiceType (cond (not b) TrailerFormat (cond (not c) PgnForm PackRequest))), o) ≡ packed q o
    go false b c w x y = packed_by q o false b c false w x y f
    go true false c w x y = packed_by q o true false c false w x y f
    go true true false w x y = packed_by q o true true false false w x y f
    go true true true w x y = packed_by q o true true true false w x y f

-- ---- a request that fits has no 6 and no 7

group_service : (s f m : ℕ) → has_trailer (service_of s f) m ≡ true → is_service s ≡ true
group_service s f m h = go (eqb s 0) (is_service s) _ h
  where
    go : (a b : Bool) (x : Result (Option ℕ) Refusal) → has_trailer (cond a (Ok None) (cond (not b) (Err ServiceType) x)) m ≡ true → b ≡ true
    go true b x e = absurd (false≢true e)
    go false true x e = refl
    go false false x e = absurd (false≢true e)

is_group_lem : (x : Result (Option ℕ) Refusal) (m : ℕ) → has_trailer x m ≡ true → is_group x ≡ true
is_group_lem (Ok (Some n)) m e = refl
is_group_lem (Ok None) m e = absurd (false≢true e)
is_group_lem (Err r) m e = absurd (false≢true e)

pub known_by_trailers : (ss fs ms : List ℕ) → length ss ≡ length ms → length fs ≡ length ms → trailers_ok ss fs ms ≡ true → (services_ok ss ≡ true) × (formats_ok ss fs ≡ true)
known_by_trailers [] fs ms a b e = (refl, refl)
known_by_trailers (s ∷ ss) [] [] a b e = absurd (omega arith)
known_by_trailers (s ∷ ss) [] (m ∷ ms) a b e = absurd (omega arith)
known_by_trailers (s ∷ ss) (f ∷ fs) [] a b e = absurd (omega arith)
known_by_trailers (s ∷ ss) (f ∷ fs) (m ∷ ms) a b e =
    let t = each_of (has_trailer (service_of s f) m ∷ trailers_ok ss fs ms ∷ []) e in
    let r = known_by_trailers ss fs ms (omega arith) (omega arith) t.1.0 in (
      all_of_lem (is_service s ∷ services_ok ss ∷ []) (group_service s f m t.0, (r.0, tt)),
      all_of_lem (is_group (service_of s f) ∷ formats_ok ss fs ∷ []) (is_group_lem (service_of s f) m t.0, (r.1, tt)),
    )

pub known : (q : Request) (out : ℕ) → Met q out → (services_ok q.services ≡ true) × (formats_ok q.services q.formats ≡ true)
known q out m =
    known_by_trailers q.services q.formats q.trailers (m.even.services ∙ sym m.even.trailers) (m.even.formats ∙ sym m.even.trailers) m.due

pub eight : (q : Request) (o : List ℕ) → Met q (length o) → request_fits q (length o) ≡ true → pgns_ok q.pgns ≡ false → (Err PgnForm, o) ≡ packed q o
eight q o m f c = packed_by q o true true false true (known q (length o) m).0 (known q (length o) m).1 c f

-- ---- an accepted request: the groups written, then the padding

pub accepted : (q : Request) (o o₁ o' : List ℕ) (n bytes : ℕ) → Met q (length o) → pgns_ok q.pgns ≡ true → request_fits q (length o) ≡ true
    → bytes ≡ needed q → n ≡ frame_length bytes
    → o₁ ≡ body (asked q) ++ drop (needed q) o → o' ≡ paste o₁ bytes (padding (n - bytes)) (n - bytes)
    → (Ok n, o') ≡ packed q o
accepted q o o₁ o' n bytes m c d eb en e₁ e' =
    let en' : n ≡ frame_length (needed q) = en ∙ ap frame_length eb in
    let X : List ℕ = body (asked q) ++ drop (needed q) o in
    ap (λ (k : ℕ). (Ok k, o')) en'
    ∙ ap (λ (l : List ℕ). (Ok (frame_length (needed q)), l))
    (e'
    ∙ ap (λ (l : List ℕ). paste l bytes (padding (n - bytes)) (n - bytes)) e₁
    ∙ ap (λ (b : ℕ). paste X b (padding (n - b)) (n - b)) eb
    ∙ ap (λ (k : ℕ). paste X (needed q) (padding (k - needed q)) (k - needed q)) en'
    ∙ padded q (length o) m o)
    ∙ packed_by q o true true true true (known q (length o) m).0 (known q (length o) m).1 c d
