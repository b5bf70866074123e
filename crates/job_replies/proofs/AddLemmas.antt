-- New jobs, case by case.
use Rattle.std.proofs.Common.{◌≡◌, ℕ, ◌+◌, ◌<◌, ◌≤◌, ◌⊎◌, inl, inr, Bool, true, false, List, [], ◌∷◌, ◌++◌, length, Option, None, Some, Result, Ok, Err, IfSome, IfOk, is_none, ap, sym, ◌∙◌, refl, arith, subst, codes}
use Rattle.std.specs.Prelude.{if◌then◌else◌, nat_lt, ◌&&◌}
use Rattle.std.specs.Option.{option_map, option_map_or}
use Rattle.std.specs.Str.{bytes_eq}
use Rattle.job_core.specs.Job.{StoredJob}
use Rattle.job_core.specs.Jobs.{IsNext, count_of, jobs_of, keyed_job}
use Rattle.job_core.specs.Keeper.{Tells}
use Rattle.job_core.specs.Machine.{has_room, jobs_after, new_head, new_job, new_reply, repeat_reply, reply_to}
use Rattle.job_core.specs.Work.{MadeWork, SourceText, made_work}
use Rattle.job_core.specs.declared.command.Command.TheVariants as command
use Rattle.job_core.specs.declared.command.Reply.{Reply}
use Rattle.job_core.specs.declared.command.Reply.TheVariants.{Head}
use Rattle.job_core.specs.declared.fault.KeepFault.{KeepFault}
use Rattle.job_core.specs.declared.job.JobHead.{JobHead}
use Rattle.job_core.specs.declared.job.Made.{Made}
use Rattle.review_bodies.specs.Json.{IsJson}
use Rattle.review_bodies.specs.Upload.{Sent, held, upload_of}
use Rattle.review_bodies.specs.declared.upload.Upload.{Upload}
use Rattle.serde_json.specs.Data.{Data}
use Rattle.upload_order.specs.Paths.{Orders}
use Rattle.job_replies.specs.Added.{Adds, Enters, EntersBy, Stores, Works, again_said, created}
use Rattle.job_replies.specs.Received.{IsReceived}
use Rattle.job_replies.specs.Said.{Is, bad_body, conflict, reply_said}
use Rattle.job_replies.specs.declared.answer.Answer.{Answer}

-- ---- bodies

some_same : {A : Type 0} (x y : A) → Some x ≡ Some y → x ≡ y
some_same x y e = cc

-- a body that is no upload
pub no_upload : (body : List ℕ) → ((d : Data) → IsJson body d → upload_of d ≡ None) → (files : List SourceText) (settings : List ℕ)
    → ¬ (IsReceived body files settings)
no_upload body none files settings r = lost (upload_of r.value) (none r.value r.json) r.form
  where
    lost : (o : Option Sent) → o ≡ None → o ≡ Some r.sent → ⊥
    lost None e f = cc
    lost (Some s) e f = cc

-- a body whose files have no order
pub no_order_of : (body : List ℕ) (u : Upload) (d : Data) → IsJson body d → upload_of d ≡ Some (held u)
    → ((sorted : List SourceText) → ¬ (Orders u.files.items sorted)) → (files : List SourceText) (settings : List ℕ)
    → ¬ (IsReceived body files settings)
no_order_of body u d json form none files settings r =
    let value = some_same d r.value (sym json.1 ∙ r.json.1) in
    let sent = some_same (held u) r.sent (sym form ∙ ap upload_of value ∙ r.form) in
    none files (subst (λ s. Orders s.files files) (sym sent) r.orders)

-- a body that is an upload whose files have an order
pub received_is : (body : List ℕ) (u : Upload) (d : Data) → IsJson body d → upload_of d ≡ Some (held u) → (files : List SourceText)
    → Orders u.files.items files → IsReceived body files u.settings
received_is body u d json form files orders =
    record { value = d; json = json; sent = held u; form = form; orders = orders; text = refl }

-- ---- keepers

tells_same : (js : List StoredJob) (now : Option (List StoredJob)) → now ≡ Some js → Tells now js
tells_same js now e = subst (λ o. Tells o js) (sym e) (λ owner. refl)

-- the owner's next job, by the count of its jobs
abbrev next_job : List ℕ → List ℕ → List ℕ → Made → ℕ → StoredJob
next_job owner key body made count =
    record { owner = owner; key = key; head = new_head (count + 1) body made; files = made.files.items; reports = made.reports.items }

module _ (owner key body : List ℕ) where
  room_is : (js : List StoredJob) (count : ℕ) → count ≡ count_of owner js → count < 10000 → has_room owner js ≡ true
  room_is js count e room = grind (arith, e, room)

  pub goes_next : (old : Option (List StoredJob)) (made : Made) (count : ℕ) → count < 10000
      → IfSome old (λ js. count ≡ count_of owner js) → IfSome old (λ js. keyed_job owner key js ≡ None)
      → IfSome old (IsNext (next_job owner key body made count))
  goes_next None made count room counted new_key = tt
  goes_next (Some js) made count room counted new_key = record {
    new_key = new_key;
    room = omega (arith, counted, room);
    number = omega (arith, counted);
  }

  pub stored_next : (old now : Option (List StoredJob)) (made : Made) (count : ℕ) (a : Answer) → count < 10000
      → IfSome old (λ js. count ≡ count_of owner js) → IfSome old (λ js. keyed_job owner key js ≡ None)
      → IfSome old (λ js. Tells now (js ++ next_job owner key body made count ∷ []))
      → Is (created (new_head (count + 1) body made)) a → IfSome old (λ js. Stores owner key body made js now a)
  stored_next None now made count a room counted new_key told said = tt
  stored_next (Some js) now made count a room counted new_key told said =
      let has = room_is js count counted room in
      record {
        said = subst (λ r. Is (reply_said created r) a)
            (sym (ap (λ o. option_map_or (repeat_reply body) o (new_reply (has_room owner js) (new_job owner key body made js))) new_key
            ∙ ap (λ b. new_reply b (new_job owner key body made js)) has))
            (subst (λ n. Is (created (new_head (n + 1) body made)) a) counted said);
        left = subst (Tells now)
            (sym (ap (λ o. if is_none o && has_room owner js then js ++ new_job owner key body made js ∷ [] else js) new_key
            ∙ ap (λ b. if b then js ++ new_job owner key body made js ∷ [] else js) has))
            (subst (λ n. Tells now (js ++ next_job owner key body made n ∷ [])) counted told);
      }

  module _ (gives : Result MadeWork (List ℕ) → Type 0) (a : Answer) where
    -- a job stands under the key
    pub stands : (old now : Option (List StoredJob)) (h : JobHead)
        → IfSome old (λ js. Some h ≡ option_map (λ j. j.head) (keyed_job owner key js)) → now ≡ old
        → Is (again_said body h) a → IfSome old (λ js. Enters gives owner key body js now a)
    stands None now h told same said = tt
    stands (Some js) now h told same said = by (keyed_job owner key js) told
      where
        by : (o : Option StoredJob) → Some h ≡ option_map (λ j. j.head) o
            → EntersBy o (has_room owner js) body a (Tells now js) (Works gives owner key body js now a)
        by None e = absurd (cc e)
        by (Some j) e = (subst (λ h. Is (again_said body h) a) (some_same h j.head e) said, tells_same js now same)

    -- no job stands under it
    unkeyed : (o : Option StoredJob) → None ≡ option_map (λ j. j.head) o → o ≡ None
    unkeyed None e = refl
    unkeyed (Some j) e = cc

    pub new_to : (old : Option (List StoredJob)) → IfSome old (λ js. None ≡ option_map (λ j. j.head) (keyed_job owner key js))
        → IfSome old (λ js. keyed_job owner key js ≡ None)
    new_to None told = tt
    new_to (Some js) told = unkeyed (keyed_job owner key js) told

    -- the owner has no room
    pub full : (old now : Option (List StoredJob)) (count : ℕ) → IfSome old (λ js. None ≡ option_map (λ j. j.head) (keyed_job owner key js))
        → IfSome old (λ js. count ≡ count_of owner js) → 10000 ≤ count → now ≡ old → Is (conflict (codes "full")) a
        → IfSome old (λ js. Enters gives owner key body js now a)
    full None now count told counted few same said = tt
    full (Some js) now count told counted few same said =
        subst (λ o. EntersBy o (has_room owner js) body a (Tells now js) (Works gives owner key body js now a))
        (sym (unkeyed (keyed_job owner key js) told))
        (subst (λ b. EntersBy None b body a (Tells now js) (Works gives owner key body js now a)) (sym no_room) (said, tells_same js now same))
      where
        no_room : has_room owner js ≡ false
        no_room = grind (arith, counted, few)

    -- it has room, and the work answers
    pub worked : (old now : Option (List StoredJob)) (count : ℕ) → IfSome old (λ js. None ≡ option_map (λ j. j.head) (keyed_job owner key js))
        → IfSome old (λ js. count ≡ count_of owner js) → count < 10000
        → IfSome old (λ js. Works gives owner key body js now a) → IfSome old (λ js. Enters gives owner key body js now a)
    worked None now count told counted room works = tt
    worked (Some js) now count told counted room works =
        subst (λ o. EntersBy o (has_room owner js) body a (Tells now js) (Works gives owner key body js now a))
        (sym (unkeyed (keyed_job owner key js) told))
        (subst (λ b. EntersBy None b body a (Tells now js) (Works gives owner key body js now a)) (sym (room_is js count counted room)) works)

-- what was made is stored
pub works_made : (owner key body : List ℕ) (gives : Result MadeWork (List ℕ) → Type 0) (old now : Option (List StoredJob))
    (made : Made) (r : Result Answer KeepFault) → gives (Ok (made_work made))
    → IfSome old (λ js. IfOk r (Stores owner key body made js now)) → IfSome old (λ js. IfOk r (Works gives owner key body js now))
works_made owner key body gives None now made r given stored = tt
works_made owner key body gives (Some js) now made (Ok a) given stored = inl (made, given, stored)
works_made owner key body gives (Some js) now made (Err e) given stored = tt

-- a body that is none
pub adds_none : (owner key body : List ℕ) (gives : List SourceText → List ℕ → Result MadeWork (List ℕ) → Type 0) (a : Answer)
    (old : Option (List StoredJob)) → ((files : List SourceText) (settings : List ℕ) → ¬ (IsReceived body files settings))
    → Is bad_body a → IfSome old (λ js. Adds gives owner key body js old a)
adds_none owner key body gives a None none said = tt
adds_none owner key body gives a (Some js) none said = inl (none, said, tells_same js (Some js) refl)

-- a body with files and settings
pub adds_some : (owner key body : List ℕ) (gives : List SourceText → List ℕ → Result MadeWork (List ℕ) → Type 0)
    (old now : Option (List StoredJob)) (r : Result Answer KeepFault) (files : List SourceText) (settings : List ℕ)
    → IsReceived body files settings → IfSome old (λ js. IfOk r (Enters (gives files settings) owner key body js now))
    → IfSome old (λ js. IfOk r (Adds gives owner key body js now))
adds_some owner key body gives None now r files settings received entered = tt
adds_some owner key body gives (Some js) now (Ok a) files settings received entered = inr (files, settings, received, entered)
adds_some owner key body gives (Some js) now (Err e) files settings received entered = tt
