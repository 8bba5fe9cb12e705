pub mod WhatIsLeft
