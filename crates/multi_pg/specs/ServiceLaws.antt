-- Which service types and trailer formats have a group: laws of the table in Services.
use Rattle.std.specs.Prelude.{ℕ, zero, suc, ◌≤◌, ◌<◌, ◌≡◌, refl, true, not, List, [], ◌∷◌, eqb, length, get_or, Option, Some, None, Result, Ok, Err}
use Rattle.std.proofs.Common.{arith, sym, ap, ◌∙◌, eqb-true, ne_eqb}
use Rattle.std.proofs.Math.Decide.{dec_le}
use Rattle.std.proofs.lemmas.Bool.{false≢true}
use Rattle.laws.specs.Choice.{then, else}
use Rattle.frame.specs.declared.refusal.Refusal.{Refusal}
use Rattle.frame.specs.declared.refusal.Refusal.TheVariants.{ServiceType, TrailerFormat}
use Rattle.multi_pg.specs.Services.{formats, trailer_of, is_service, on_format, service_of, is_group, has_trailer}

-- ---- past the table

pub past_services : (tos tf : ℕ) → 2 < tos → Err ServiceType ≡ service_of tos tf
past_services tos tf h =
    else (eqb tos 0) _ _ _ (ne_eqb tos 0 (λ e. omega arith))
    (then (not (is_service tos)) _ _ _ (rw (ne_eqb tos 1 (λ e. omega arith), ne_eqb tos 2 (λ e. omega arith))) refl)

past : (l : List (Option ℕ)) (i : ℕ) → length l ≤ i → get_or l i None ≡ None
past [] i h = refl
past (x ∷ l) zero h = absurd (omega arith)
past (x ∷ l) (suc i) h = past l i (omega arith)

-- no row has a ninth format
past_formats : (tos tf : ℕ) → 7 < tf → trailer_of tos tf ≡ None
past_formats zero tf h = refl
past_formats (suc zero) tf h = past (get_or formats 1 []) tf h
past_formats (suc (suc zero)) tf h = past (get_or formats 2 []) tf h
past_formats (suc (suc (suc tos))) tf h = refl

pub ninth_format : (tos tf : ℕ) → (tos ≡ 0 → ⊥) → tos ≤ 2 → 7 < tf → Err TrailerFormat ≡ service_of tos tf
ninth_format zero tf z l h = absurd (z refl)
ninth_format (suc zero) tf z l h = ap on_format (sym (past_formats 1 tf h))
ninth_format (suc (suc zero)) tf z l h = ap on_format (sym (past_formats 2 tf h))
ninth_format (suc (suc (suc tos))) tf z l h = absurd (omega arith)

-- ---- a group's service type and trailer format lie in the table

pub group_known : (tos tf n : ℕ) → service_of tos tf ≡ Ok (Some n) → (tos ≤ 2) × (tf ≤ 7)
group_known tos tf n e = go (dec_le tos 2) (dec_le tf 7)
  where
    not_zero : tos ≡ 0 → ⊥
    not_zero z = false≢true (ap is_group (sym (ap (λ (t : ℕ). service_of t tf) z) ∙ e))

    not_past : Err ServiceType ≡ service_of tos tf → ⊥
    not_past q = false≢true (ap is_group (q ∙ e))

    not_ninth : tos ≤ 2 → 7 < tf → ⊥
    not_ninth l h = false≢true (ap is_group (ninth_format tos tf not_zero l h ∙ e))

    go : Dec (tos ≤ 2) → Dec (tf ≤ 7) → (tos ≤ 2) × (tf ≤ 7)
    go (yes a) (yes b) = (a, b)
    go (no a) b = absurd (not_past (past_services tos tf (omega arith)))
    go (yes a) (no b) = absurd (not_ninth a (omega arith))

pub has_trailer_lem : (s : Result (Option ℕ) Refusal) (m : ℕ) → has_trailer s m ≡ true → s ≡ Ok (Some m)
has_trailer_lem (Ok (Some n)) m e = ap (λ (k : ℕ). Ok (Some k)) (eqb-true n m e)
has_trailer_lem (Ok None) m e = absurd (false≢true e)
has_trailer_lem (Err r) m e = absurd (false≢true e)
