-- What a keeper that tells its jobs makes of a command, case by case.
use Rattle.std.proofs.Common.{◌≡◌, ℕ, zero, suc, ◌+◌, ◌<◌, ◌≤◌, ◌⊎◌, Bool, true, false, cond, List, [], ◌∷◌, length, find, All, Option, None, Some, IfSome, is_some, is_none, ap, sym, ◌∙◌, refl, arith, inl, inr, subst, not, nat_le, codes, ◌==◌, ◌&&◌, if◌then◌else◌}
use Rattle.std.specs.Str.{bytes_eq}
use Rattle.std.specs.Prelude.{slice_get, option_and_then}
use Rattle.std.specs.Option.{option_map, option_map_or}
use Rattle.std.proofs.lemmas.List.Elements.{All-head, All-tail}
use Rattle.job_core.specs.Job.{StoredJob}
use Rattle.job_core.specs.Jobs.{IsKept, closed, closed_job, job_of, judged, jobs_of, numbered, report_in, report_of, with_job}
use Rattle.job_core.specs.Keeper.{Tells}
use Rattle.job_core.specs.Machine.{is_open, judge_reply, jobs_after, reply_to}
use Rattle.job_core.specs.declared.command.Command.{Command}
use Rattle.job_core.specs.declared.command.Command.TheVariants as command
use Rattle.job_core.specs.declared.command.Reply.{Reply}
use Rattle.job_core.specs.declared.command.Reply.TheVariants.{Head, KeyTaken, Closed, Full, NoSuch}
use Rattle.job_core.specs.declared.job.JobHead.{JobHead}
use Rattle.review_answers.specs.Bodies as bodies
use Rattle.review_answers.specs.declared.code.Code.TheVariants.{Fine}
use Rattle.review_bodies.specs.declared.judgement.Judgement.{Judgement}
use Rattle.job_replies.specs.Said.{Closes, Does, Is, Judged, Said, conflict, no_job, reply_said, say}
use Rattle.job_replies.specs.declared.answer.Answer.{Answer}

-- a job that is found is one of the list
found_passes : (P : StoredJob → Type 0) (p : StoredJob → Bool) (xs : List StoredJob) (j : StoredJob) → find p xs ≡ Some j
    → All P xs → P j
found_passes P p [] j e all = cc
found_passes P p (x ∷ xs) j e all = passes (p x) e (λ later. found_passes P p xs j later (All-tail P x xs all))
  where
    same : Some x ≡ Some j → x ≡ j
    same e = cc

    passes : (t : Bool) → cond t (Some x) (find p xs) ≡ Some j → (find p xs ≡ Some j → P j) → P j
    passes true e rest = subst P (same e) (All-head P x xs all)
    passes false e rest = rest e

-- a head counts the reports of its job
counted : (owner : List ℕ) (job : ℕ) (js : List StoredJob) (j : StoredJob) → IsKept js → job_of owner job js ≡ Some j
    → j.head.reports ≡ length j.reports
counted owner job js j kept e =
    found_passes (λ j. j.head.reports ≡ length j.reports) (λ j. job == j.head.job) (jobs_of owner js) j e (kept owner).reports

-- an item has the numbers from 1 to the length
past : {A : Type 0} (items : List A) (i : ℕ) → length items ≤ i → is_none (slice_get items i) ≡ true
past [] i h = refl
past (x ∷ items) zero h = absurd (omega (arith, h))
past (x ∷ items) (suc i) h = past items i (omega (arith, h))

within : {A : Type 0} (items : List A) (i : ℕ) → i < length items → is_none (slice_get items i) ≡ false
within [] i h = absurd (omega (arith, h))
within (x ∷ items) zero h = refl
within (x ∷ items) (suc i) h = within items i (omega (arith, h))

no_number : {A : Type 0} (n : ℕ) (items : List A) → (n ≡ 0) ⊎ (length items < n) → is_none (numbered n items) ≡ true
no_number zero items h = refl
no_number (suc i) items (inl e) = absurd (omega (arith, e))
no_number (suc i) items (inr h) = past items i (omega (arith, h))

a_number : {A : Type 0} (n : ℕ) (items : List A) → 0 < n → n ≤ length items → is_none (numbered n items) ≡ false
a_number zero items some few = absurd (omega (arith, some))
a_number (suc i) items some few = within items i (omega (arith, few))

-- what is found where the head is known
record Found (owner : List ℕ) (job : ℕ) (js : List StoredJob) (h : JobHead) : Type 0 where
  stored : StoredJob
  is : job_of owner job js ≡ Some stored
  head : stored.head ≡ h

found_by : (owner : List ℕ) (job : ℕ) (js : List StoredJob) (h : JobHead) (o : Option StoredJob) → job_of owner job js ≡ o
    → Some h ≡ option_map (λ j. j.head) o → Found owner job js h
found_by owner job js h None e told = cc
found_by owner job js h (Some j) e told = record { stored = j; is = e; head = cc }

none_by : (o : Option StoredJob) → None ≡ option_map (λ j. j.head) o → o ≡ None
none_by None told = refl
none_by (Some j) told = cc

-- where a job isn't found, none is changed
module _ (owner : List ℕ) (n : ℕ) (change : StoredJob → StoredJob) where
  commute : (t : Bool) (j : StoredJob) (fs : List StoredJob)
      → find (λ j. n == j.head.job) (cond t (j ∷ fs) fs)
      ≡ cond t (cond (n == j.head.job) (Some j) (find (λ j. n == j.head.job) fs)) (find (λ j. n == j.head.job) fs)
  commute true j fs = refl
  commute false j fs = refl

  passed : (t u : Bool) (j : StoredJob) (found : Option StoredJob) → cond t (cond u (Some j) found) found ≡ None
      → (found ≡ None) × ((t && u) ≡ false)
  passed true true j found e = cc
  passed true false j found e = (e, refl)
  passed false u j found e = (e, refl)

  untouched : (js : List StoredJob) → job_of owner n js ≡ None → with_job owner n change js ≡ js
  untouched [] e = refl
  untouched (j ∷ js) e =
      let p = passed (bytes_eq owner j.owner) (n == j.head.job) j (job_of owner n js) (sym (commute (bytes_eq owner j.owner) j (jobs_of owner js)) ∙ e) in
      ap (λ b. (if b then change j else j) ∷ with_job owner n change js) p.1 ∙ ap (λ xs. j ∷ xs) (untouched js p.0)

-- a keeper that tells these jobs tells the same
tells_same : (js ks : List StoredJob) (now : Option (List StoredJob)) → now ≡ Some js → js ≡ ks → Tells now ks
tells_same js ks now e same = subst (λ o. Tells o ks) (sym e) (λ owner. ap (jobs_of owner) same)

-- by the head that a keeper told of a job, if it told one
module _ (owner : List ℕ) (job n : ℕ) (jd : Judgement) (a : Answer) where
  pub judge_missing : (old now : Option (List StoredJob)) → IfSome old (λ js. None ≡ option_map (λ j. j.head) (job_of owner job js))
      → now ≡ old → Is no_job a → IfSome old (λ js. Judged owner job n jd js now a)
  judge_missing None now told same said = tt
  judge_missing (Some js) now told same said =
      let none = none_by (job_of owner job js) told in
      record {
        said = subst (λ o. Is (reply_said (λ h. say Fine (bodies.judged job n)) (option_map_or (judge_reply n) o NoSuch)) a) (sym none) said;
        left = tells_same js (jobs_after (command.Judge owner job n jd.verdict jd.note) js) now same
            (sym (ap (λ o. if option_map_or (λ j. not j.head.closed) o false then judged owner job n jd.verdict jd.note js else js) none));
      }

  -- the reply of a job that is known
  known : (js : List StoredJob) (j : StoredJob) → job_of owner job js ≡ Some j → (t u : Bool)
      → is_none (numbered n j.reports) ≡ t → j.head.closed ≡ u
      → reply_to (command.Judge owner job n jd.verdict jd.note) js ≡ (if t then NoSuch else if u then Closed else Head j.head)
  known js j e t u et eu =
      ap (λ o. option_map_or (judge_reply n) o NoSuch) e
      ∙ ap (λ t. if t then NoSuch else if j.head.closed then Closed else Head j.head) et
      ∙ ap (λ u. if t then NoSuch else if u then Closed else Head j.head) eu

  -- a closed job stays
  stays : (js : List StoredJob) (j : StoredJob) → job_of owner job js ≡ Some j → j.head.closed ≡ true
      → js ≡ jobs_after (command.Judge owner job n jd.verdict jd.note) js
  stays js j e shut =
      sym (ap (λ o. if option_map_or (λ j. not j.head.closed) o false then judged owner job n jd.verdict jd.note js else js) e
      ∙ ap (λ b. if not b then judged owner job n jd.verdict jd.note js else js) shut)

  numbers : (h : JobHead) (j : StoredJob) (t : Bool) → j.head ≡ h → j.head.reports ≡ length j.reports
      → (nat_le 1 n && nat_le n h.reports) ≡ t → is_none (numbered n j.reports) ≡ not t
  numbers h j true e count has =
      a_number n j.reports (grind (arith, has)) (grind (arith, has, count, ap (λ h. h.reports) e))
  numbers h j false e count has = no_number n j.reports (outside (n == 0) refl)
    where
      outside : (t : Bool) → (n == 0) ≡ t → (n ≡ 0) ⊎ (length j.reports < n)
      outside true z = inl (grind (arith, z))
      outside false z = inr (grind (arith, z, has, count, ap (λ h. h.reports) e))

  pub judge_shut : (old now : Option (List StoredJob)) (h : JobHead) (t : Bool)
      → IfSome old (λ js. Some h ≡ option_map (λ j. j.head) (job_of owner job js)) → IfSome old (λ js. IsKept js)
      → now ≡ old → h.closed ≡ true → (nat_le 1 n && nat_le n h.reports) ≡ t
      → Is (if t then conflict (codes "closed") else no_job) a → IfSome old (λ js. Judged owner job n jd js now a)
  judge_shut None now h t told kept same shut has said = tt
  judge_shut (Some js) now h t told kept same shut has said =
      let f = found_by owner job js h (job_of owner job js) refl told in
      let closed = ap (λ h. h.closed) f.head ∙ shut in
      record {
        said = subst (λ r. Is (reply_said (λ h. say Fine (bodies.judged job n)) r) a)
            (sym (known js f.stored f.is (not t) true (numbers h f.stored t f.head (counted owner job js f.stored kept f.is) has) closed))
            (shown t f.stored said);
        left = tells_same js (jobs_after (command.Judge owner job n jd.verdict jd.note) js) now same (stays js f.stored f.is closed);
      }
    where
      shown : (t : Bool) (j : StoredJob) → Is (if t then conflict (codes "closed") else no_job) a
          → Is (reply_said (λ h. say Fine (bodies.judged job n)) (if not t then NoSuch else if true then Closed else Head j.head)) a
      shown true j said = said
      shown false j said = said

  pub judge_open : (old now : Option (List StoredJob)) (h : JobHead) (done : Bool)
      → IfSome old (λ js. Some h ≡ option_map (λ j. j.head) (job_of owner job js)) → h.closed ≡ false
      → IfSome old (λ js. done ≡ is_some (report_of owner job n js))
      → IfSome old (λ js. Tells now (judged owner job n jd.verdict jd.note js))
      → Is (if done then say Fine (bodies.judged job n) else no_job) a → IfSome old (λ js. Judged owner job n jd js now a)
  judge_open None now h done told open_ was after said = tt
  judge_open (Some js) now h done told open_ was after said =
      let f = found_by owner job js h (job_of owner job js) refl told in
      let going = ap (λ h. h.closed) f.head ∙ open_ in
      record {
        said = subst (λ r. Is (reply_said (λ h. say Fine (bodies.judged job n)) r) a)
            (sym (known js f.stored f.is (not done) false (numbered_by (numbered n f.stored.reports) done (was ∙ ap (λ o. is_some (report_in n o)) f.is)) going))
            (shown done f.stored said);
        left = subst (λ ks. Tells now ks)
            (sym (ap (λ o. if option_map_or (λ j. not j.head.closed) o false then judged owner job n jd.verdict jd.note js else js) f.is
            ∙ ap (λ b. if not b then judged owner job n jd.verdict jd.note js else js) going))
            after;
      }
    where
      numbered_by : {A : Type 0} (o : Option A) (done : Bool) → done ≡ is_some o → is_none o ≡ not done
      numbered_by None done e = ap not (sym e)
      numbered_by (Some x) done e = ap not (sym e)

      shown : (t : Bool) (j : StoredJob) → Is (if t then say Fine (bodies.judged job n) else no_job) a
          → Is (reply_said (λ h. say Fine (bodies.judged job n)) (if not t then NoSuch else if false then Closed else Head j.head)) a
      shown true j said = said
      shown false j said = said

-- a job, closed
module _ (owner : List ℕ) (job : ℕ) (a : Answer) where
  pub close_missing : (old now : Option (List StoredJob)) → IfSome old (λ js. None ≡ option_map (λ j. j.head) (job_of owner job js))
      → now ≡ old → Is no_job a → IfSome old (λ js. Closes owner job js now a)
  close_missing None now told same said = tt
  close_missing (Some js) now told same said =
      let none = none_by (job_of owner job js) told in
      record {
        said = subst (λ o. Is (reply_said (λ h. say Fine (bodies.head h)) (option_map_or (λ j. Head (closed_job j).head) o NoSuch)) a) (sym none) said;
        left = tells_same js (closed owner job js) now same (sym (untouched owner job closed_job js none));
      }

  pub close_found : (old now : Option (List StoredJob)) (h : JobHead) (done : Bool)
      → IfSome old (λ js. Some h ≡ option_map (λ j. j.head) (job_of owner job js))
      → IfSome old (λ js. done ≡ is_some (job_of owner job js))
      → IfSome old (λ js. Tells now (closed owner job js))
      → Is (if done then say Fine (bodies.head (record h { closed = true })) else no_job) a
      → IfSome old (λ js. Closes owner job js now a)
  close_found None now h done told was after said = tt
  close_found (Some js) now h done told was after said =
      let f = found_by owner job js h (job_of owner job js) refl told in
      record {
        said = subst (λ o. Is (reply_said (λ h. say Fine (bodies.head h)) (option_map_or (λ j. Head (closed_job j).head) o NoSuch)) a) (sym f.is)
            (subst (λ h. Is (say Fine (bodies.head (record h { closed = true }))) a) (sym f.head)
            (subst (λ b. Is (if b then say Fine (bodies.head (record h { closed = true })) else no_job) a) (was ∙ ap is_some f.is) said));
        left = after;
      }
