-- Which refusals a table can have, and how far they are: those of the rules, 2 to 9 and 14, and 29, never beyond the longest image;
-- and of an image that was written those of the rules alone.
use mathlib.Core.Path.{◌≡◌, refl, sym, ◌∙◌}
use mathlib.Core.Logic.{◌⊎◌, inl, inr}
use Prim.Native.Nat.{ℕ, ◌*◌, ◌≤◌}
use Rattle.refusals.specs.declared.Refusal.{Refusal}
use Rattle.refusals.specs.declared.Refusal.TheVariants.{TooLarge}
use Rattle.refusals.specs.Answer.{refused, answer_place}
use Rattle.refusals.proofs.Findings.{Only, only-checked}
use Rattle.table.specs.Table.{Table}
use Rattle.table.specs.Limits.{limits}
use Rattle.table.specs.Fields.{Field, IsField, number_in, Fits, Timed}
use Rattle.table.specs.Rules.Deadlines.{keepable}
use Rattle.format.specs.Places.{longest_image}
use Rattle.format.specs.Fault.{image_fault}
use Rattle.format.specs.Image.{image_of}
use Rattle.format.specs.Write.{start_of, table_look, table_fault}
use Rattle.format.proofs.Reached.{IsRule, Reached, only-table}
use Rattle.format.proofs.Reach.{Placed, Within, rules-within, within-place}
use Rattle.round.proofs.Refused.{fits-clear, refused-alike}

module _ (tab : Table) where
  -- ---- which

  abbrev Own : Refusal → ℕ → Type 0
  Own r at = IsRule r ⊎ (r ≡ TooLarge)

  own-found : Only Own (table_fault tab)
  unfolding table_fault
  own-found =
      only-table limits (table_look tab) keepable Own (λ f here. only-checked Own _ TooLarge _ (inr refl)) (λ f here r is. inl is)

  pub only-rules : {r : Refusal} {at : ℕ} → table_fault tab ≡ refused r at → IsRule r ⊎ (r ≡ TooLarge)
  only-rules e = rw e at own-found

  -- the rules come only to fields that the table has
  has : (f : Field) → Reached limits (table_look tab) f → IsField tab f
  unfolding number_in
  has (Field.header f) here = tt
  has (Field.head u f) here = here.owner
  has (Field.task u j f) here = (record { owner = here.0.owner; place = here.0.within }, here.1)

  module _ (fits : Fits tab) where
    abbrev Ruled : Refusal → ℕ → Type 0
    Ruled r at = IsRule r

    rules-found : Only Ruled (table_fault tab)
    unfolding table_fault
    rules-found = only-table limits (table_look tab) keepable Ruled (λ f here. rw (fits-clear tab fits f (has f here)) tt) (λ f here r is. is)

    pub only-own-rules : {r : Refusal} {at : ℕ} → table_fault tab ≡ refused r at → IsRule r
    only-own-rules e = rw e at rules-found

    -- so an image that was written never ends inside a field, has no padding bit that is 1, and no byte follows
    pub written-refused :
        Timed tab → {r : Refusal} {at : ℕ} → image_fault (image_of tab) ≡ refused r at → IsRule r
    written-refused timed e = only-own-rules (sym (refused-alike tab fits timed) ∙ e)

  -- ---- how far

  placed : Placed (table_look tab) (start_of tab)
  unfolding start_of number_in
  placed = record { header = λ f. refl; head = λ u f. refl; task = λ u j f. refl; first = refl; next = λ u. refl }

  table-place : Within (table_fault tab)
  unfolding table_fault
  table-place = rules-within placed (λ f h. only-checked _ _ _ _ h)

  pub furthest : answer_place (table_fault tab) ≤ 8 * longest_image
  furthest = within-place (table_fault tab) table-place
