-- The bytes of client/mapdrawing.js. tools/client --write wrote this.
use Rattle.std.specs.Prelude.{ℕ, List, codes}

-- the file `mapdrawing.js`
unfoldable pub mapdrawing_js : List ℕ
mapdrawing_js = codes "// The drawing: a box for each class, beside the class above it, with the names that are in it, and arrows between names.\nimport { address } from './page.js';\n\nconst WIDTH = 190;\nconst STEP = WIDTH + 46;\nconst ROW = 24;\nconst HEAD = 28;\nconst GAP = 14;\nconst LONGEST = 22;\nconst DEEPEST = 30;\n\nfunction svg(name, attributes, ...children) {\n    const element = document.createElementNS('http://www.w3.org/2000/svg', name);\n    Object.entries(attributes).forEach(([key, value]) => element.setAttribute(key, String(value)));\n    element.append(...children);\n    return element;\n}\n\nconst text = (x, y, kind, words) => svg('text', { x, y, class: kind }, words.length > LONGEST ? words.slice(0, LONGEST - 1) + '\\u2026' : words);\nconst link = (name, what, ...children) => svg('a', { href: address(name), 'aria-label': what }, svg('title', {}, what), ...children);\n\n// How deep each class lies below others; where classes go round in a circle the count ends.\nfunction depths(facts) {\n    const depth = new Map(facts.classes.map((name) => [name, 0]));\n    for (let round = 0; round < DEEPEST; round += 1) {\n        for (const [low, highs] of facts.below) {\n            const above = [...highs].filter((high) => high !== low && depth.has(high)).map((high) => depth.get(high) + 1);\n            if (depth.has(low)) { depth.set(low, Math.min(Math.max(depth.get(low), ...above), DEEPEST)); }\n        }\n    }\n    return depth;\n}\n\nconst deepest = (names, depth) => [...(names || [])].filter((name) => depth.has(name)).sort((one, other) => depth.get(other) - depth.get(one));\n\n// The boxes with their chips: each name has one in its deepest class, and pale ones in the others.\nfunction boxesOf(facts, depth) {\n    const boxes = new Map([...facts.classes, null].map((name) => [name, { name, chips: [], below: [], x: 0, y: 0 }]));\n    for (const name of facts.names) {\n        const [first, ...others] = deepest(facts.classesOf.get(name), depth);\n        boxes.get(first === undefined ? null : first).chips.push({ name, isAlso: false });\n        others.forEach((it) => boxes.get(it).chips.push({ name, isAlso: true }));\n    }\n    for (const box of boxes.values()) {\n        box.above = deepest(facts.below.get(box.name), depth).find((high) => depth.get(high) < depth.get(box.name));\n        if (box.above !== undefined) { boxes.get(box.above).below.push(box); }\n        placeChips(box);\n    }\n    if (boxes.get(null).chips.length === 0) { boxes.delete(null); }\n    return boxes;\n}\n\nfunction placeChips(box) {\n    let [x, row] = [8, 0];\n    for (const chip of box.chips) {\n        chip.width = Math.min(Math.min(chip.name.length, LONGEST) * 8.3 + 14, WIDTH - 16);\n        if (x > 8 && x + chip.width > WIDTH - 8) { [x, row] = [8, row + 1]; }\n        [chip.x, chip.y] = [x, HEAD + row * ROW];\n        x += chip.width + 6;\n    }\n    box.height = HEAD + (box.chips.length > 0 ? (row + 1) * ROW + 4 : 0);\n}\n\nfunction placeTree(box, x, y) {\n    [box.x, box.y] = [x, y];\n    return Math.max(box.below.reduce((next, low) => placeTree(low, x + STEP, next), y), y + box.height + GAP);\n}\n\n// Trees stand below each other; boxes that are alone fill columns beneath them.\nfunction place(boxes) {\n    const roots = [...boxes.values()].filter((box) => box.above === undefined);\n    const top = roots.filter((box) => box.below.length > 0).reduce((y, box) => placeTree(box, GAP, y), GAP);\n    const columns = new Array(4).fill(top);\n    for (const box of roots.filter((it) => it.below.length === 0)) {\n        const column = columns.indexOf(Math.min(...columns));\n        columns[column] = placeTree(box, GAP + column * STEP, columns[column]);\n    }\n}\n\nfunction drawBox(box, chips, relations) {\n    const isNone = box.name === null;\n    const head = [svg('rect', { x: box.x, y: box.y, width: WIDTH, height: box.height, rx: 7, class: 'box' }), text(box.x + 10, box.y + 19, 'class-name', isNone ? 'in no class' : box.name)];\n    const inside = box.chips.map((chip) => {\n        const [x, y] = [box.x + chip.x, box.y + chip.y];\n        const told = relations.filter((it) => it.from === chip.name).map((it) => `; ${it.role} ${it.to}`).join('');\n        const element = link(chip.name, chip.name + (isNone ? ', in no class' : ', in the class ' + box.name) + told,\n            svg('rect', { x, y, width: chip.width, height: ROW - 5, rx: 9, class: chip.isAlso ? 'chip also' : 'chip' }), text(x + 7, y + 14, 'chip-name', chip.name));\n        if (!chip.isAlso) { chips.set(chip.name, { element, box, x, end: x + chip.width, y: y + 9, edges: [] }); }\n        return element;\n    });\n    return [isNone ? svg('g', {}, ...head) : link(box.name, 'the class ' + box.name + (box.above ? ', below ' + box.above : ''), ...head), ...inside];\n}\n\nfunction drawAbove(box, high) {\n    const [x, y, toX, toY] = [box.x, box.y + 14, high.x + WIDTH, high.y + 14];\n    return svg('path', { class: 'isa', d: `M ${x} ${y} C ${x - 24} ${y}, ${toX + 24} ${toY}, ${toX} ${toY}`, 'marker-end': 'url(#isa-end)' });\n}\n\nfunction drawRelation({ role, from, to }, chips) {\n    const [one, other] = [chips.get(from), chips.get(to)];\n    const isRight = other.x > one.end;\n    const [x, toX] = [isRight ? one.end : one.x, other.end < one.x ? other.end : other.x];\n    const [bend, toBend] = [isRight ? x + 40 : x - 40, other.end < one.x ? toX + 40 : toX - 40];\n    const path = svg('path', { class: 'relation', d: `M ${x} ${one.y} C ${bend} ${one.y}, ${toBend} ${other.y}, ${toX} ${other.y}`, 'marker-end': 'url(#relation-end)' });\n    const label = text((x + toX + 3 * (bend + toBend)) / 8, (one.y + other.y) / 2 - 3, 'relation-name', one.box.x === other.box.x ? '' : role);\n    const element = svg('g', { class: 'edge' }, path, label);\n    [one, other].forEach((chip) => chip.edges.push(element));\n    return { role, element };\n}\n\nfunction marker(id, kind) {\n    const size = { viewBox: '0 0 8 8', refX: 8, refY: 4, markerWidth: 8, markerHeight: 8, orient: 'auto', markerUnits: 'userSpaceOnUse' };\n    return svg('marker', { id, ...size }, svg('path', { d: 'M 0 0 L 8 4 L 0 8 z', class: kind }));\n}\n\n// The drawing with its edges, each with its role, and its size.\nexport function draw(facts) {\n    const [boxes, chips] = [boxesOf(facts, depths(facts)), new Map()];\n    place(boxes);\n    const all = [...boxes.values()];\n    const drawn = all.flatMap((box) => drawBox(box, chips, facts.relations));\n    const above = all.flatMap((box) => [...(facts.below.get(box.name) || [])].filter((high) => boxes.has(high) && high !== box.name).map((high) => drawAbove(box, boxes.get(high))));\n    const edges = facts.relations.filter((it) => chips.has(it.from) && chips.has(it.to)).map((it) => drawRelation(it, chips));\n    const width = Math.max(...all.map((box) => box.x + WIDTH), 300) + GAP;\n    const height = Math.max(...all.map((box) => box.y + box.height), 60) + GAP;\n    const element = svg('svg', { viewBox: `0 0 ${width} ${height}`, role: 'group', 'aria-label': 'Classes, names and their relations' },\n        svg('defs', {}, marker('isa-end', 'isa-arrow'), marker('relation-end', 'relation-arrow')), ...above, ...drawn, ...edges.map((edge) => edge.element));\n    for (const chip of chips.values()) {\n        const light = (isOn) => () => chip.edges.forEach((edge) => edge.classList.toggle('on', isOn));\n        ['mouseenter', 'focus'].forEach((event) => chip.element.addEventListener(event, light(true)));\n        ['mouseleave', 'blur'].forEach((event) => chip.element.addEventListener(event, light(false)));\n    }\n    return { element, edges, width, height };\n}\n"
