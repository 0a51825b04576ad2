-- "C-APDU size 4 is case 1, 5 case 2, 5+Lc case 3, 6+Lc case 4 with Le 00; else 6700."
use Rattle.std.specs.Prelude.{ℕ, ◌+◌, ◌-◌, false, ◌&&◌, List, length, leb, eqb}
use Rattle.octets.specs.Choice.{pick}
use Rattle.octets.specs.Bytes.{byte}
use Rattle.command.specs.declared.Reading.{Reading}

-- the case of a C-APDU by its size, and 0 for no case's size
unfoldable pub case_by_size : List ℕ → ℕ
case_by_size capdu =
    pick (eqb (length capdu) 4) 1
    (pick (eqb (length capdu) 5) 2
    (pick (eqb (length capdu) (5 + byte capdu 4)) 3
    (pick (eqb (length capdu) (6 + byte capdu 4) && eqb (byte capdu (length capdu - 1)) 0) 4 0)))

-- cases 3 and 4 carry Lc data bytes
unfoldable pub carried : List ℕ → ℕ
carried capdu = pick (leb 3 (case_by_size capdu)) (byte capdu 4) 0

-- the command that a C-APDU is, and where its data lie in it; P3 is the Le of case 2, and no bytes count as after it
unfoldable pub capdu_command : List ℕ → Reading
capdu_command capdu =
    record {
      command =
          record {
            whole = leb 1 (case_by_size capdu);
            class = byte capdu 0;
            instruction = byte capdu 1;
            p1 = byte capdu 2;
            p2 = byte capdu 3;
            p3 = byte capdu 4;
            case = case_by_size capdu;
            after = false;
          };
      from = pick (leb 3 (case_by_size capdu)) 5 4;
      size = carried capdu;
    }
