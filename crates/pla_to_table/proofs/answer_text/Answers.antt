-- A text is too long, or refused, or accepted: what stands in the rooms is written for its first bytes, and so for the whole text.
use Rattle.std.proofs.Common.{◌≡◌, List, ℕ, ◌≤◌, ◌<◌, length, take, refl, ap, arith}
use Rattle.std.proofs.lemmas.List.{length-take-le}
use Rattle.text.specs.Writing.{HasRoom}
use Rattle.pla.specs.Answer.{PlaRead, number_of, line_of}
use Rattle.pla.proofs.Answering.{pla-length, refusal-some}
use Rattle.pla_to_table.specs.Answer.{max_text, only_message, written}
use Rattle.pla_to_table.specs.Messages.{message_room, refused_message, too_long}
use Rattle.pla_to_table.proofs.Messages.{message-fits, message-room, message-inside}
use Rattle.pla_to_table.proofs.Answering.{written-long, written-refused, stands-whole, stands-message, stands-table}
use Rattle.pla_to_table.proofs.answer_text.Goals as goal

-- The first bytes are as many as the count says.
more : (count : ℕ) (input : List ℕ) → count ≤ length input → max_text < count → max_text < length (take count input)
more count input h g = omega (arith, length-take-le count input h)

fewer : (count : ℕ) (input : List ℕ) → count ≤ length input → count ≤ max_text → length (take count input) ≤ max_text
fewer count input h g = omega (arith, length-take-le count input h)

-- The room of a message has place for the one of a text that is too long.
room-too-long : (room : List ℕ) → length room ≡ message_room → HasRoom room 0 too_long
room-too-long room e = record { fits = omega (arith, e) }

pub write_too_long-requires : goal.write_too_long-requires
write_too_long-requires c = room-too-long c.args.message.now c.requires.message_len

pub returns-then-count-gt-MAX_TEXT-clause-stands : goal.returns-then-count-gt-MAX_TEXT-clause-stands
returns-then-count-gt-MAX_TEXT-clause-stands c =
    let long = more c.args.count c.args.input.now c.requires.count_in_bounds (omega arith) in
    stands-whole c.args.input.now _ _ c.args.count c.args.output _ c.requires.input_len
    (stands-message (written-long (take c.args.count c.args.input.now) c.args.output long) (omega (arith, c.requires.message_len)) c.write_too_long.ensures)

pub returns-then-count-gt-MAX_TEXT-clause-message_in_bounds : goal.returns-then-count-gt-MAX_TEXT-clause-message_in_bounds
returns-then-count-gt-MAX_TEXT-clause-message_in_bounds c = message-inside (room-too-long c.args.message.now c.requires.message_len) c.write_too_long.ensures

pub write_refused-requires : goal.write_refused-requires
write_refused-requires c = message-room c.number.result c.line.result c.args.message.now c.requires.message_len c.number.type_inv c.line.type_inv

pub returns-in-Err-clause-stands : goal.returns-in-Err-clause-stands
returns-in-Err-clause-stands c =
    let refusal = c.in-Err.refusal in
    let answer : PlaRead = record { refusal = number_of refusal; line = line_of refusal; length = 0 } in
    let short = fewer c.args.count c.args.input.now c.requires.count_in_bounds (omega arith) in
    let said : written (take c.args.count c.args.input.now) c.args.output ≡ only_message (refused_message c.number.result c.line.result) =
    rw (c.number.ensures, c.line.ensures)
    (written-refused (take c.args.count c.args.input.now) c.args.output _ _ answer short c.requires.table_len c.in-Err.ensures.answer c.in-Err.ensures.room_after (refusal-some refusal)) in
    stands-whole c.args.input.now _ _ c.args.count c.args.output _ c.requires.input_len
    (stands-message said (omega (arith, message-fits c.number.result c.line.result c.number.type_inv c.line.type_inv, c.requires.message_len)) c.write_refused.ensures.wrote)

pub returns-in-Err-clause-message_in_bounds : goal.returns-in-Err-clause-message_in_bounds
returns-in-Err-clause-message_in_bounds c = c.write_refused.ensures.upper_bound

pub returns-in-Ok-clause-stands : goal.returns-in-Ok-clause-stands
returns-in-Ok-clause-stands c =
    let answer : PlaRead = record { refusal = 0; line = 0; length = c.in-Ok.length } in
    let short = fewer c.args.count c.args.input.now c.requires.count_in_bounds (omega arith) in
    stands-whole c.args.input.now _ _ c.args.count c.args.output _ c.requires.input_len
    (stands-table (take c.args.count c.args.input.now) c.args.output _ _ answer short c.requires.table_len c.in-Ok.ensures.answer c.in-Ok.ensures.room_after _ refl)

pub returns-in-Ok-clause-table_in_bounds : goal.returns-in-Ok-clause-table_in_bounds
returns-in-Ok-clause-table_in_bounds c =
    let same = ap (λ (x : PlaRead). x.length) c.in-Ok.ensures.answer in
    omega (arith, same, pla-length (take c.args.count c.args.input.now) c.args.output c.args.table.now, c.read_pla.auto.room)
