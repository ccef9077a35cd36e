-- What is written is read back: every field of a table stands at its place in the image, so the image says the table.
use mathlib.Core.Path.{◌≡◌, refl, sym, ap, ap₂, ◌∙◌}
use mathlib.Core.List.{List, ◌++◌}
use Prim.Native.Nat.{ℕ, zero, suc, ◌+◌, ◌*◌, ◌≤◌, ◌<◌}
use native.Mathlib.Omega.{arith}
use lib.ListN.{length, get_or, length-append}
use Rattle.bits.specs.Bits.{value_at, field_bits}
use Rattle.table.specs.Table.{Table, IsTask, transactions, transaction, no_transaction, period, modes, tasks, task, no_task, offset, jitter, blocking, deadline, priority, time}
use Rattle.table.specs.Limits.{edition_width, frame_width, transactions_width, period_width, modes_width, tasks_width, offset_width, jitter_width, blocking_width, deadline_width, priority_width, time_width}
use Rattle.table.specs.Fields.{HeaderField, HeadField, TaskField, Field, width, number_in, IsField, Fits, Timed}
use Rattle.table.specs.Lists.{joined}
use Rattle.row.proofs.Rows.{listed}
use Rattle.format.specs.Places.{place_in_head, place_in_task, head_width, times_at, task_at, past, start}
use Rattle.format.specs.Said.{count_in, modes_in, tasks_in, task_in, transaction_in, table_in}
use Rattle.format.specs.Fault.{place_in}
use Rattle.format.specs.Image.{task_bits, transaction_bits, table_bits, image_of}
use Rattle.format.specs.Write.{start_of, place_of}
use Rattle.round.proofs.Bits.{table-bits, image-length}
use Rattle.bits.proofs.Put.{length-field}
use Rattle.round.proofs.Places.{length_fields, time_bits, length-tasks, length_front}
use Rattle.round.proofs.Stands.{Stands, all-stand, first_part, second-part, joined-part, three, first_of, second-of, third_of, rest_of, field_back}

-- ---- every field of a table stands among its bits

module _ (tab : Table) (timed : Timed tab) where
  abbrev Here : ℕ → List ℕ → Type 0
  Here p l = Stands (table_bits tab) p l

  abbrev Field-here : Field → Type 0
  Field-here f = Here (place_of tab f) (field_bits (width f) (number_in tab f))

  abbrev transactions_bits : List ℕ
  transactions_bits = joined (transactions tab) (λ u. transaction_bits (transaction tab u))

  header-stands : (f : HeaderField) → Field-here (Field.header f)
  unfolding table_bits number_in
  header-stands HeaderField.edition = first_of edition_width frame_width transactions_width _ _ _ transactions_bits (all-stand (table_bits tab))
  header-stands HeaderField.frame = second-of edition_width frame_width transactions_width _ _ _ transactions_bits (all-stand (table_bits tab))
  header-stands HeaderField.count = third_of edition_width frame_width transactions_width _ _ _ transactions_bits (all-stand (table_bits tab))

  module _ (u : ℕ) (h : u < transactions tab) where
    transaction-stands : Here (start_of tab u) (transaction_bits (transaction tab u))
    unfolding table_bits
    transaction-stands =
        rw (length_front tab timed u (omega arith)) at
        (joined-part (transactions tab) u (λ v. transaction_bits (transaction tab v)) h
        (rest_of edition_width frame_width transactions_width _ _ _ transactions_bits (all-stand (table_bits tab))))

    abbrev tasks_bits : List ℕ
    tasks_bits = joined (tasks tab u) (λ j. task_bits (task tab u j))

    head-stands : (f : HeadField) → Field-here (Field.head u f)
    unfolding transaction_bits number_in period modes tasks task
    head-stands HeadField.period = first_of period_width modes_width tasks_width _ _ _ tasks_bits transaction-stands
    head-stands HeadField.modes = second-of period_width modes_width tasks_width _ _ _ tasks_bits transaction-stands
    head-stands HeadField.tasks = third_of period_width modes_width tasks_width _ _ _ tasks_bits transaction-stands

    tasks-stand : Here (start_of tab u + head_width) tasks_bits
    unfolding transaction_bits tasks task
    tasks-stand = rest_of period_width modes_width tasks_width _ _ _ tasks_bits transaction-stands

  module _ (u j : ℕ) (is : IsTask tab u j) where
    abbrev at : ℕ
    at = task_at (start_of tab u) (modes tab u) j

    task-stands : Here at (task_bits (task tab u j))
    task-stands =
        rw (length-tasks tab timed u is.owner j (omega (arith, is.place))) at
        (joined-part (tasks tab u) j (λ i. task_bits (task tab u i)) is.place (tasks-stand u is.owner))

    -- a task's fields before its deadline, with it, with its priority, and its times

    abbrev early : List ℕ
    early = three offset_width jitter_width blocking_width (offset tab u j) (jitter tab u j) (blocking tab u j)

    abbrev due : List ℕ
    due = field_bits deadline_width (deadline tab u j)

    abbrev urgent : List ℕ
    urgent = field_bits priority_width (priority tab u j)

    abbrev times_bits : List ℕ
    times_bits = joined (length (task tab u j).times) (time_bits (task tab u j))

    whole : Here at (early ++ due ++ urgent ++ times_bits)
    unfolding task_bits offset jitter blocking deadline priority
    whole = task-stands

    with-deadline : Here at (early ++ due)
    with-deadline = first_part (early ++ due) urgent (first_part (early ++ due ++ urgent) times_bits whole)

    times-stand : Here (times_at at) times_bits
    times-stand = simp (length-append, length-field) at (second-part (early ++ due ++ urgent) times_bits whole)

    task-field-stands : (f : TaskField) → IsField tab (Field.task u j f) → Field-here (Field.task u j f)
    unfolding number_in time
    task-field-stands TaskField.offset has = first_of offset_width jitter_width blocking_width _ _ _ due with-deadline
    task-field-stands TaskField.jitter has = second-of offset_width jitter_width blocking_width _ _ _ due with-deadline
    task-field-stands TaskField.blocking has = third_of offset_width jitter_width blocking_width _ _ _ due with-deadline
    task-field-stands TaskField.deadline has = rest_of offset_width jitter_width blocking_width _ _ _ due with-deadline
    task-field-stands TaskField.priority has =
        simp (length-append, length-field) at (second-part (early ++ due) urgent (first_part (early ++ due ++ urgent) times_bits whole))
    task-field-stands (TaskField.time m) has =
        rw (length_fields time_width m (λ i. get_or (task tab u j).times i 0)) at
        (joined-part (length (task tab u j).times) m (time_bits (task tab u j)) (rw (timed.times u j is) has.1) times-stand)

  pub field-stands : (f : Field) → IsField tab f → Stands (table_bits tab) (place_of tab f) (field_bits (width f) (number_in tab f))
  field-stands (Field.header f) has = header-stands f
  field-stands (Field.head u f) has = head-stands u has f
  field-stands (Field.task u j f) has = task-field-stands u j has.0 f has

  -- and so lies in its image
  pub field-inside : (f : Field) → IsField tab f → place_of tab f + width f ≤ 8 * length (image_of tab)
  field-inside f has =
      omega (arith, image-length tab, (field-stands f has).inside, length-field (width f) (number_in tab f))

-- ---- the image of a table whose numbers fit

module _ (tab : Table) (fits : Fits tab) (timed : Timed tab) where
  abbrev image : List ℕ
  image = image_of tab

  -- every field of the image, at its place, has the table's number
  pub number-back : (f : Field) → IsField tab f → value_at (image_of tab) (place_of tab f) (width f) ≡ number_in tab f
  unfolding image_of
  number-back f has =
      field_back (table_bits tab) (table-bits tab) (place_of tab f) (width f) (number_in tab f) (fits.below f has) (field-stands tab timed f has)

  pub count-back : count_in (image_of tab) ≡ transactions tab
  unfolding number_in
  count-back = number-back (Field.header HeaderField.count) tt

  -- the image itself tells where its transactions start
  pub start_back : (u : ℕ) → u ≤ transactions tab → start (image_of tab) u ≡ start_of tab u
  unfolding start past start_of number_in
  start_back zero h = refl
  start_back (suc u) h =
      rw (start_back u (omega arith))
      (ap₂ (task_at (start_of tab u)) (number-back (Field.head u HeadField.modes) h) (number-back (Field.head u HeadField.tasks) h))

  module _ (u : ℕ) (h : u < transactions tab) where
    abbrev p : ℕ
    p = start image u

    pub modes-back : modes_in (image_of tab) (start (image_of tab) u) ≡ modes tab u
    unfolding number_in
    modes-back = rw (start_back u (omega arith)) (number-back (Field.head u HeadField.modes) h)

    tasks-back : tasks_in image p ≡ tasks tab u
    unfolding number_in
    tasks-back = rw (start_back u (omega arith)) (number-back (Field.head u HeadField.tasks) h)

    pub head-place-back : (f : HeadField) → place_in (image_of tab) (Field.head u f) ≡ place_of tab (Field.head u f)
    head-place-back f = ap (λ (q : ℕ). place_in_head q f) (start_back u (omega arith))

    pub task-place-back : (j : ℕ) (f : TaskField) → place_in (image_of tab) (Field.task u j f) ≡ place_of tab (Field.task u j f)
    task-place-back j f =
        ap (λ (q : ℕ). place_in_task q f) (ap₂ (λ (q m : ℕ). task_at q m j) (start_back u (omega arith)) modes-back)

  pub place-back : (f : Field) → IsField tab f → place_in (image_of tab) f ≡ place_of tab f
  place-back (Field.header f) has = refl
  place-back (Field.head u f) has = head-place-back u has f
  place-back (Field.task u j f) has = task-place-back u has.0.owner j f

  -- a field as the image's own places give it
  pub said-back : (f : Field) → IsField tab f → value_at (image_of tab) (place_in (image_of tab) f) (width f) ≡ number_in tab f
  said-back f has = ap (λ (q : ℕ). value_at image q (width f)) (place-back f has) ∙ number-back f has

  same-task :
      (u j : ℕ) → IsTask tab u j → task_in image (modes_in image (start image u)) (task_at (start image u) (modes_in image (start image u)) j) ≡ task tab u j
  unfolding task_in number_in offset jitter blocking deadline priority time
  same-task u j is =
      let times =
      listed (modes_in image (start image u)) _ (task tab u j).times 0 (modes-back u is.owner ∙ sym (timed.times u j is))
      (λ m below. said-back (Field.task u j (TaskField.time m)) (is, rw (modes-back u is.owner) at below)) in
      λ i.
      record {
        offset = said-back (Field.task u j TaskField.offset) (is, tt) i;
        jitter = said-back (Field.task u j TaskField.jitter) (is, tt) i;
        blocking = said-back (Field.task u j TaskField.blocking) (is, tt) i;
        deadline = said-back (Field.task u j TaskField.deadline) (is, tt) i;
        priority = said-back (Field.task u j TaskField.priority) (is, tt) i;
        times = times i;
      }

  same-transaction : (u : ℕ) → u < transactions tab → transaction_in image (start image u) ≡ transaction tab u
  unfolding transaction_in number_in period modes tasks task
  same-transaction u h =
      let each =
      listed (tasks_in image (start image u)) _ (transaction tab u).tasks no_task (tasks-back u h)
      (λ j below. same-task u j (record { owner = h; place = rw (tasks-back u h) at below })) in
      λ i.
      record {
        period = said-back (Field.head u HeadField.period) h i;
        modes = said-back (Field.head u HeadField.modes) h i;
        tasks = each i;
      }

  -- what is written is read back
  pub read_back : table_in (image_of tab) ≡ tab
  unfolding table_in number_in transactions transaction
  read_back =
      let each =
      listed (count_in image) _ tab.transactions no_transaction count-back
      (λ u below. same-transaction u (rw count-back at below)) in
      λ i.
      record {
        edition = said-back (Field.header HeaderField.edition) tt i;
        frame = said-back (Field.header HeaderField.frame) tt i;
        transactions = each i;
      }

-- two tables with the same image are the same
pub same-image : (one two : Table) → Fits one → Timed one → Fits two → Timed two → image_of one ≡ image_of two → one ≡ two
same-image one two Fits-one timed-one fits-two timed-two same =
    sym (read_back one Fits-one timed-one) ∙ ap table_in same ∙ read_back two fits-two timed-two
