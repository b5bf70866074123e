-- Answers: a status line, a head of three lines, an empty line and a body. (RFC 9112, "HTTP/1.1", sections 2 and 4; the
-- reasons are those of RFC 9110, "HTTP Semantics", section 15, and of RFC 4918 and RFC 6585.)
use Rattle.std.specs.Prelude.{ℕ, List, [], ◌∷◌, ◌++◌, length, codes, decimal}
use Rattle.review_answers.specs.declared.code.Code.{Code}
use Rattle.review_answers.specs.declared.code.Code.TheVariants.{
  Fine,
  Created,
  BadRequest,
  NotFound,
  MethodNotAllowed,
  Conflict,
  LengthRequired,
  ContentTooLarge,
  UnprocessableContent,
  HeaderFieldsTooLarge,
  ServiceUnavailable,
  InsufficientStorage,
}

abbrev pub number_of : Code → ℕ
number_of Fine = 200
number_of Created = 201
number_of BadRequest = 400
number_of NotFound = 404
number_of MethodNotAllowed = 405
number_of Conflict = 409
number_of LengthRequired = 411
number_of ContentTooLarge = 413
number_of UnprocessableContent = 422
number_of HeaderFieldsTooLarge = 431
number_of ServiceUnavailable = 503
number_of InsufficientStorage = 507

abbrev pub reason_of : Code → List ℕ
reason_of Fine = codes "OK"
reason_of Created = codes "Created"
reason_of BadRequest = codes "Bad Request"
reason_of NotFound = codes "Not Found"
reason_of MethodNotAllowed = codes "Method Not Allowed"
reason_of Conflict = codes "Conflict"
reason_of LengthRequired = codes "Length Required"
reason_of ContentTooLarge = codes "Content Too Large"
reason_of UnprocessableContent = codes "Unprocessable Content"
reason_of HeaderFieldsTooLarge = codes "Request Header Fields Too Large"
reason_of ServiceUnavailable = codes "Service Unavailable"
reason_of InsufficientStorage = codes "Insufficient Storage"

-- the end of a line: carriage return and line feed
abbrev pub crlf : List ℕ
crlf = 13 ∷ 10 ∷ []

-- the status line, and the line with the length of the body, without their ends
abbrev pub status_line_of : Code → List ℕ
status_line_of code = codes "HTTP/1.1 " ++ decimal (number_of code) ++ codes " " ++ reason_of code

abbrev pub length_line_of : ℕ → List ℕ
length_line_of n = codes "Content-Length: " ++ decimal n

-- lines, each with its end
abbrev pub lines : List (List ℕ) → List ℕ
lines [] = []
lines (l ∷ ls) = (l ++ crlf) ++ lines ls

-- what stands before a body of so many bytes: the last line is empty
abbrev pub head_of : Code → ℕ → List ℕ
head_of code n = lines
    (status_line_of code ∷ codes "Content-Type: application/json" ∷ length_line_of n ∷ codes "Connection: close" ∷ [] ∷ [])

-- A whole answer.
abbrev pub answer_of : Code → List ℕ → List ℕ
answer_of code body = head_of code (length body) ++ body
