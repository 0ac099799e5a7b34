-- Laws of the call: what the reader hands on, which row answers, and what the lent slices hold after it.
-- Rests on what the reader leaves being the job's, and on which numbers the rows refuse with.
use Rattle.std.specs.Prelude.{ℕ, zero, suc, ◌+◌, ◌<◌, ◌≤◌, ◌≡◌, true, false, List, [], ◌∷◌, length, Float}
use Rattle.std.proofs.Math.Path.{refl, sym}
use Rattle.std.proofs.Common.{ap, subst, ◌∙◌, arith}
use Rattle.std.proofs.lemmas.List.{append-nil}
use borrow.Author.Tests.{ne_eqb, lt-leb, le-leb}
use Rattle.laws.specs.Lists.{written}
use Rattle.glyphs.specs.declared.rect.Rectangle.{Rectangle}
use Rattle.format.specs.Rows.{◌unless◌}
use Rattle.format.specs.declared.pieces.Pieces.{Pieces}
use Rattle.format.specs.RowLaws.{row_fault, row_clear}
use Rattle.sheet.specs.Sheet.{sheet_of}
use Rattle.discs.specs.PlaceGlyphs.{Placements}
use Rattle.discs.specs.declared.options.GlyphOptions.{GlyphOptions}
use Rattle.discs.specs.declared.rows.Row.{Row}
use Rattle.job.specs.Head.{lent_fault, work_fault}
use Rattle.job.specs.Job.{job_of, zones, items_fault, points_of, sizes_of, rings_of, rows_of, sheet_room, sheet_fault, rows_room}
use Rattle.laws.specs.Every.{Every}
use Rattle.job.specs.Rows.{Fits, rows_fit, length_are, rows_are, room_is}
use Rattle.job.proofs.Known.{job_known}
use Rattle.job.specs.Steps.{ItemsRead}
use Rattle.job.specs.Plan.{number_of, placements_of, sheet_for, work_after, refused, given, plan_of}
use Rattle.plan.specs.Answer.{Answer, refused_by}
use Rattle.plan.specs.Read.{left_read}
use Rattle.plan.specs.Called.{ReadIn, Answered, zones_number, items_number, answer_of, given_by}
use Rattle.plan.specs.Later.{is_early, lent_early, work_early, items_later}
use Rattle.plan.specs.CallLaws.{cleared}

-- ---- a job that was read

written_none : {A : Type 0} (xs : List A) → written xs [] ≡ xs
unfolding written
written_none [] = refl
written_none (x ∷ xs) = append-nil (x ∷ xs)

module _
    {V R P : ℕ} (s : List ℕ) (options : GlyphOptions) (pillars pillars' : List Rectangle) (pieces pieces' : Pieces V R P) (rows rows' : List Row)
    (r : ItemsRead s options pillars pillars' pieces pieces' rows rows') (whole : items_fault s ≡ 0) (no_rows : rows ≡ []) where
  rows_read : rows' ≡ rows_of s
  rows_read = rw no_rows at r.put.row

  pub rows_fit_lem : (length rows' ≤ 64) × Every Fits rows'
  unfolding job_of
  rows_fit_lem =
      let few : length (rows_of s) ≤ 64 =
      omega (arith, length_are s (zones s) (rows_of s) (rows_are s whole), (job_known s whole).few_zones) in
      rw rows_read (few, rows_fit s (zones s) (rows_of s) (rows_are s whole))

  room_read : 15 + rows_room rows' ≡ sheet_room (job_of s)
  room_read = rw rows_read (room_is s whole)

  -- where the memory was empty
  module _ (no_pillars : pillars ≡ []) (no_rings : pieces.rings.items ≡ []) (no_sizes : pieces.sizes.items ≡ []) (no_points : pieces.points.items ≡ []) where
    pub read_in : ReadIn s options pillars' rows' pieces'.rings.items pieces'.sizes.items pieces'.points.items
    read_in =
        let p = r.put in
        let zs = zones s in
        record {
          whole = whole;
          choices = unfold job_of in r.choices;
          pillars = unfold job_of in (rw no_pillars at r.pillar);
          left =
              unfold job_of in
              rw (
                rows_read,
                (rw no_rings at p.rings) ∙ sym (written_none (rings_of zs)),
                (rw no_sizes at p.sizes) ∙ sym (written_none (sizes_of zs)),
                (rw no_points at p.points) ∙ sym (written_none (points_of zs)),
              ) (left_read s whole [] [] []);
        }

  -- the sheet does not fit
  lacks_room : (room sheet : ℕ) → room ≡ 15 + rows_room rows' → sheet < room → items_number s sheet ≡ 14
  lacks_room room sheet e h =
      let short : 14 ≡ sheet_fault (job_of s) sheet =
      unfold sheet_fault ◌unless◌ in rw (lt-leb (sheet_room (job_of s)) sheet (omega (arith, e, room_read))) in
      sym (row_clear (items_fault s) (items_fault s) _ refl whole (row_fault 14 (sheet_fault (job_of s) sheet) _ short (λ (z : 14 ≡ 0). omega arith) refl))

  -- it does
  has_room : (room sheet : ℕ) → room ≡ 15 + rows_room rows' → room ≤ sheet → items_number s sheet ≡ zones_number (job_of s)
  has_room room sheet e h =
      let fits : 0 ≡ sheet_fault (job_of s) sheet =
      unfold sheet_fault ◌unless◌ in rw (le-leb (sheet_room (job_of s)) sheet (omega (arith, e, room_read))) in
      sym (row_clear (items_fault s) (items_fault s) _ refl whole (row_clear 0 (sheet_fault (job_of s) sheet) _ fits refl refl))

  pub short_answered :
      (room : ℕ) (sheet : List ℕ) → room ≡ 15 + rows_room rows' → length sheet < room
      → Answered (items_number s (length sheet)) (job_of s) (refused_by 14) sheet sheet
  short_answered room sheet e h =
      let f = lacks_room room (length sheet) e h in
      record { refused = λ _. (ap refused_by (sym f), refl); given = λ (z : items_number s (length sheet) ≡ 0). absurd (omega (arith, sym f ∙ z)) }

  pub zones_answered :
      (room : ℕ) (answer : Answer) (sheet sheet' : List ℕ) → room ≡ 15 + rows_room rows' → room ≤ length sheet
      → Answered (zones_number (job_of s)) (job_of s) answer sheet sheet' → Answered (items_number s (length sheet)) (job_of s) answer sheet sheet'
  zones_answered room answer sheet sheet' e h a = subst (λ (x : ℕ). Answered x (job_of s) answer sheet sheet') (sym (has_room room (length sheet) e h)) a

module _ (s : List ℕ) (first second : List Float) (sheet : List ℕ) where
  -- what the call answers, and what it leaves
  pub record Ends (r : Answer) (first' second' : List Float) (sheet' : List ℕ) : Type 0 where
    pub answer : r ≡ answer_of (plan_of s first second sheet)
    pub lent :
        (first' ≡ (plan_of s first second sheet).first) × (second' ≡ (plan_of s first second sheet).second) × (sheet' ≡ (plan_of s first second sheet).sheet)

  plan_refused : (n : ℕ) → number_of s first second sheet ≡ n → (n ≡ 0 → ⊥) → plan_of s first second sheet ≡ refused n first second sheet
  unfolding plan_of
  plan_refused n e h = rw (e, ne_eqb n 0 h)

  plan_given : number_of s first second sheet ≡ 0 → plan_of s first second sheet ≡ given (placements_of (job_of s)) first second sheet
  unfolding plan_of
  plan_given e = rw e refl

  refused_answer : (n : ℕ) (r : Answer) → r ≡ refused_by n → r ≡ answer_of (refused n first second sheet)
  unfolding refused
  refused_answer n r e = e

  -- refused by row 1 or 2
  ends_early : (n : ℕ) (r : Answer) → number_of s first second sheet ≡ n → (n ≡ 0 → ⊥) → is_early n ≡ true → r ≡ refused_by n → Ends r first second sheet
  ends_early n r e h early a =
      let p = plan_refused n e h in
      record {
        answer = rw p (refused_answer n r a);
        lent = rw p (unfold refused work_after in rw early (refl, refl, refl));
      }

  number_lent : (n : ℕ) → n ≡ lent_fault s → (n ≡ 0 → ⊥) → n ≡ number_of s first second sheet
  unfolding number_of
  number_lent n e h = row_fault n (lent_fault s) _ e h refl

  number_work : (n : ℕ) → lent_fault s ≡ 0 → n ≡ work_fault (length first) (length second) → (n ≡ 0 → ⊥) → n ≡ number_of s first second sheet
  unfolding number_of
  number_work n l e h = row_clear (lent_fault s) (lent_fault s) _ refl l (row_fault n (work_fault (length first) (length second)) _ e h refl)

  number_items : lent_fault s ≡ 0 → work_fault (length first) (length second) ≡ 0 → items_number s (length sheet) ≡ number_of s first second sheet
  unfolding number_of
  number_items l w =
      row_clear (lent_fault s) (lent_fault s) _ refl l
      (row_clear (work_fault (length first) (length second)) (work_fault (length first) (length second)) _ refl w refl)

  pub ends_lent : (n : ℕ) (r : Answer) → n ≡ lent_fault s → (n ≡ 0 → ⊥) → r ≡ refused_by n → Ends r first second sheet
  ends_lent n r e h a = ends_early n r (sym (number_lent n e h)) h (rw e (lent_early s (λ z. h (e ∙ z)))) a

  pub ends_work :
      (n : ℕ) (r : Answer) → lent_fault s ≡ 0 → n ≡ work_fault (length first) (length second) → (n ≡ 0 → ⊥) → r ≡ refused_by n → Ends r first second sheet
  ends_work n r l e h a = ends_early n r (sym (number_work n l e h)) h (rw e (work_early (length first) (length second) (λ z. h (e ∙ z)))) a

  given_answer : (placements : Placements) (r : Answer) → r ≡ given_by placements → r ≡ answer_of (given placements first second sheet)
  unfolding given
  given_answer placements r e = e

  given_lent :
      (placements : Placements) (sheet' : List ℕ) → sheet' ≡ written (sheet_of (sheet_for placements)) sheet
      → (cleared first ≡ (given placements first second sheet).first) × (cleared second ≡ (given placements first second sheet).second)
      × (sheet' ≡ (given placements first second sheet).sheet)
  unfolding given work_after
  given_lent placements sheet' e = (refl, refl, e)

  refused_lent :
      (n : ℕ) (sheet' : List ℕ) → is_early n ≡ false → sheet' ≡ sheet
      → (cleared first ≡ (refused n first second sheet).first) × (cleared second ≡ (refused n first second sheet).second)
      × (sheet' ≡ (refused n first second sheet).sheet)
  unfolding refused work_after
  refused_lent n sheet' later e = rw later (refl, refl, e)

  ends_later :
      (n : ℕ) (r : Answer) (sheet' : List ℕ) → number_of s first second sheet ≡ n → is_early n ≡ false → Answered n (job_of s) r sheet sheet'
      → Ends r (cleared first) (cleared second) sheet'
  ends_later zero r sheet' e later a =
      let p = plan_given e in
      let g = a.given refl in
      record { answer = rw p (given_answer (placements_of (job_of s)) r g.0); lent = rw p (given_lent (placements_of (job_of s)) sheet' g.1) }
  ends_later (suc n) r sheet' e later a =
      let h : suc n ≡ 0 → ⊥ = λ z. omega arith in
      let p = plan_refused (suc n) e h in
      let g = a.refused h in
      record { answer = rw p (refused_answer (suc n) r g.0); lent = rw p (refused_lent (suc n) sheet' later g.1) }

  pub ends_cleared :
      (r : Answer) (first' second' : List Float) (sheet' : List ℕ) → lent_fault s ≡ 0 → work_fault (length first) (length second) ≡ 0
      → first' ≡ cleared first → second' ≡ cleared second
      → Answered (items_number s (length sheet)) (job_of s) r sheet sheet' → Ends r first' second' sheet'
  ends_cleared r first' second' sheet' l w a b answered =
      rw (a, b) (ends_later (items_number s (length sheet)) r sheet' (sym (number_items l w)) (items_later s (length sheet)) answered)
