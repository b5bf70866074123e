-- How a refused request is answered: the table of refusals in docs/FORMATS.md, up to its ninth row.
use Rattle.std.specs.Prelude.{ℕ, List, codes}
use Rattle.review_request.specs.declared.refusal.Refusal.{Refusal}
use Rattle.review_request.specs.declared.refusal.Refusal.TheVariants.{LongHead, BadHead, NoRoute, WrongMethod, BadOwner, NoLength, BadLength, LongBody, BadBody}

-- the status
abbrev pub status_of : Refusal → ℕ
status_of LongHead = 431
status_of BadHead = 400
status_of NoRoute = 404
status_of WrongMethod = 405
status_of BadOwner = 400
status_of NoLength = 411
status_of BadLength = 400
status_of LongBody = 413
status_of BadBody = 400

-- the word
abbrev pub word_of : Refusal → List ℕ
word_of LongHead = codes "head"
word_of BadHead = codes "head"
word_of NoRoute = codes "route"
word_of WrongMethod = codes "method"
word_of BadOwner = codes "owner"
word_of NoLength = codes "length"
word_of BadLength = codes "length"
word_of LongBody = codes "body"
word_of BadBody = codes "body"
